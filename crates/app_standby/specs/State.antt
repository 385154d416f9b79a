-- What a run has of its host between two turns.
use Rattle.std.specs.Prelude.{◌≡◌, ℕ, Bool, true, false, List, Result, Ok, Err, ⊤}
use Rattle.share_entries.specs.Entry.{EntryView}
use Rattle.share_logged.specs.Making.{IsOfLog}
use Rattle.share_turns.specs.Runs.{hosting, is_over}
use Rattle.share_turns.specs.declared.runs.HostPlan.{HostPlan}
use Rattle.share_logged.specs.declared.fault.LoggedFault.{LoggedFault}
use Rattle.share_logged.specs.declared.fault.LoggedFault.TheVariants.{Log}
use Rattle.share_store.specs.declared.fault.AppendFault.TheVariants.{InDoubt, Taken}
use Rattle.app_standby.specs.declared.fault.SharedFault.{SharedFault}
use Rattle.app_standby.specs.declared.fault.SharedFault.TheVariants as shared
use Rattle.app_standby.specs.declared.state.Now.{Now}
use Rattle.app_standby.specs.declared.state.Now.TheVariants.{Behind, Hosting}

abbrev pub is_hosting : Now → Bool
is_hosting (Hosting h) = true
is_hosting Behind = false

-- there is a host, which is done
abbrev pub is_now_over : HostPlan → Now → Bool
is_now_over plan (Hosting h) = is_over plan (hosting h.part h.attendance)
is_now_over plan Behind = false

-- if there is a host it has this mark
abbrev pub IsMarked : (mark : List ℕ) → Now → Type 0
IsMarked mark (Hosting h) = h.mark ≡ mark
IsMarked mark Behind = ⊤

-- if there is a host it is the one that these entries make
abbrev pub IsMade : (viewers : ℕ) → List EntryView → Now → Type 0
IsMade viewers entries (Hosting h) = IsOfLog viewers entries h.part
IsMade viewers entries Behind = ⊤

-- if there is a host it has this mark, and is the one that these entries make
abbrev pub IsNowOf : (mark : List ℕ) → (viewers : ℕ) → List EntryView → Now → Type 0
IsNowOf mark viewers entries now = IsMarked mark now × IsMade viewers entries now

-- A turn ended early. If the log has other entries, or is in doubt, the run goes on without the
-- host; any other fault ends it.
abbrev pub after_fault : LoggedFault → Result Now SharedFault
after_fault (Log Taken) = Ok Behind
after_fault (Log InDoubt) = Ok Behind
after_fault fault = Err (shared.Turn fault)
