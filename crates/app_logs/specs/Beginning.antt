-- A host that makes a log, or goes on with one.
use Rattle.std.specs.Prelude.{◌≡◌, ◌⊎◌, ℕ, List, false, Option, None, Some, Result, Ok, Err}
use Rattle.share_entries.specs.declared.head.Head.{Head}
use Rattle.share_entries.specs.Base.{BaseView}
use Rattle.share_entries.specs.Entry.{EntryView}
use Rattle.share_entries.specs.Head.{is_viewer_count}
use Rattle.share_file.specs.declared.fault.OpenFault.{OpenFault}
use Rattle.share_file.specs.Contents.{FileView}
use Rattle.share_law.specs.Parts.{HostPart, part_of}
use Rattle.share_turns.specs.Attendance.{none_heard}
use Rattle.laws_hosts.specs.Log.{host_of}
use Rattle.share_logged.specs.Bases.{part_from}
use Rattle.share_logged.specs.Following.{PartsMake, StopsAt}
use Rattle.share_logged.specs.Hosting.{LoggedView}
use Rattle.share_logged.specs.Logged.{logged}
use Rattle.share_logged.specs.Making.{IsLogOf}
use Rattle.share_logged.specs.Resuming.{BreaksAt}
use Rattle.share_logged.specs.declared.fault.ResumeFault.TheVariants as resume
use Rattle.app_logs.specs.declared.fault.LogFault.{LogFault}
use Rattle.app_logs.specs.declared.fault.LogFault.TheVariants.{BadHead, Device, Memory, NotALog}
use Rattle.app_logs.specs.Faults.{open_fault_of}

-- the host that entries make, with all its inputs, which has heard of no viewer
abbrev pub host_with : Head → List EntryView → LoggedView
host_with head entries = record {
  mark = head.mark;
  part = part_of (host_of head.viewers (logged entries) 1);
  attendance = none_heard;
}

-- hosts wrote the entries of a log, or those after its base
abbrev pub AreWritten : (viewers : ℕ) → Option BaseView → List EntryView → Type 0
AreWritten viewers None entries = IsLogOf viewers entries
AreWritten viewers (Some base) entries =
    (part : HostPart) × PartsMake (part_from base) entries part

-- The host goes on with a log: it has numbered its entries, or those after its base; it has heard
-- of no viewer.
abbrev pub GoesOnWith : Head → Option BaseView → List EntryView → LoggedView → Type 0
GoesOnWith head None entries h = h ≡ host_with head entries
GoesOnWith head (Some base) entries h =
    (h.mark ≡ head.mark) × (h.attendance ≡ none_heard)
    × PartsMake (part_from base) entries h.part

-- entry n of a log is one that no host wrote there
abbrev pub NotWrittenAt : (viewers : ℕ) → Option BaseView → List EntryView → (n : ℕ) → Type 0
NotWrittenAt viewers None entries n = BreaksAt viewers entries n
NotWrittenAt viewers (Some base) entries n = StopsAt (part_from base) entries (resume.NotALog n)

-- why a host doesn't begin with entries
abbrev pub IsNotResumed : (viewers : ℕ) → Option BaseView → List EntryView → LogFault → Type 0
IsNotResumed viewers base entries fault =
    (fault ≡ Memory)
    ⊎ (((n : ℕ) × NotWrittenAt viewers base entries n × (fault ≡ NotALog n))
    ⊎ ((fault ≡ BadHead) × (is_viewer_count viewers ≡ false)))

-- why a host doesn't go on with the log of a file: the device failed, memory was refused, the file
-- has a fault, or an entry is one that no host wrote there
abbrev pub IsNotBegun : Result FileView OpenFault → LogFault → Type 0
IsNotBegun answer fault =
    (fault ≡ Device) ⊎ ((fault ≡ Memory)
    ⊎ (((why : OpenFault) × (answer ≡ Err why) × (fault ≡ open_fault_of why))
    ⊎ ((found : FileView) × (n : ℕ) × (answer ≡ Ok found)
    × NotWrittenAt found.head.viewers found.base found.entries n × (fault ≡ NotALog n))))
