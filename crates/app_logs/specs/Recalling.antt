-- The file of a log, of whatever scene, as the steps of a job.
use Rattle.std.specs.Prelude.{◌≡◌, ◌⊎◌, ◌-◌, ℕ, List, length, take, replicate, Option, None, Some, Result, Ok, Err}
use Rattle.share_entries.specs.declared.head.Head.{Head}
use Rattle.share_entries.specs.declared.head.HeadFault.{HeadFault}
use Rattle.share_entries.specs.Base.{BaseView}
use Rattle.share_entries.specs.Entry.{EntryView}
use Rattle.share_log.specs.Frames.{frames_of}
use Rattle.share_file.specs.declared.fault.OpenFault.{OpenFault}
use Rattle.share_file.specs.Entries.{head_among}
use Rattle.share_file.specs.Contents.{FileView, contents_of}
use Rattle.app_logs.specs.declared.fault.LogFault.{LogFault}
use Rattle.app_logs.specs.declared.fault.LogFault.TheVariants.{HasBase, NotALog}
use Rattle.app_logs.specs.Beginning.{AreWritten, NotWrittenAt}
use Rattle.app_logs.specs.Faults.{open_fault_of}
use Rattle.app_logs.specs.Info.{info_text}
use Rattle.app_logs.specs.Steps.{steps_text}

-- the mark of the scene that a head names; zeros if there is no head
abbrev pub mark_of : Result Head HeadFault → List ℕ
mark_of (Ok head) = head.mark
mark_of (Err fault) = replicate 32 0

-- the log of a file, of whatever scene and number of viewers, or the first fault
abbrev pub log_in : (file : List ℕ) → Result FileView OpenFault
log_in file =
    contents_of (record { mark = mark_of (head_among (frames_of file)); viewers = None }) file

-- the first n entries, or all
abbrev pub first_of : Option ℕ → List EntryView → List EntryView
first_of None entries = entries
first_of (Some n) entries = take n entries

-- how many of the entries after a base are among the first n of the log
abbrev pub until_after : Option BaseView → Option ℕ → Option ℕ
until_after None until = until
until_after (Some base) None = None
until_after (Some base) (Some n) = Some (n - base.number)

-- the file is a log without a base that a host wrote, and the text has the steps of its first
-- entries
pub record IsRecalled (until : Option ℕ) (file text : List ℕ) : Type 0 where
  pub found : FileView
  pub of_file : log_in file ≡ Ok found
  pub whole : found.base ≡ None
  pub log : AreWritten found.head.viewers found.base found.entries
  pub steps : text ≡ steps_text (first_of until found.entries)

-- the file is a log that a host wrote, and the text says what it has, and of its first entries
pub record IsInfo (until : Option ℕ) (file text : List ℕ) : Type 0 where
  pub found : FileView
  pub of_file : log_in file ≡ Ok found
  pub log : AreWritten found.head.viewers found.base found.entries
  pub lines : text
      ≡ info_text (length file) found.cut found.head found.base
      (first_of (until_after found.base until) found.entries)

-- the first fault of a file, or its first entry that no host wrote
abbrev pub IsNoLog : (file : List ℕ) → LogFault → Type 0
IsNoLog file fault =
    ((why : OpenFault) × (log_in file ≡ Err why) × (fault ≡ open_fault_of why))
    ⊎ ((found : FileView) × (n : ℕ) × (log_in file ≡ Ok found)
    × NotWrittenAt found.head.viewers found.base found.entries n × (fault ≡ NotALog n))

-- the file is no log, or one whose first entries a base stands for
abbrev pub IsNoWholeLog : (file : List ℕ) → LogFault → Type 0
IsNoWholeLog file fault =
    IsNoLog file fault
    ⊎ ((found : FileView) × (base : BaseView) × (log_in file ≡ Ok found)
    × (found.base ≡ Some base) × (fault ≡ HasBase base.number))
