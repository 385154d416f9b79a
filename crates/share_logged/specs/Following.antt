-- A host takes entries that other hosts have stored.
use Rattle.std.specs.Prelude.{◌≡◌, ◌+◌, List, [], ◌∷◌, ◌++◌}
use Rattle.share_entries.specs.Entry.{EntryView}
use Rattle.share_law.specs.Parts.{HostPart}
use Rattle.share_logged.specs.declared.fault.ResumeFault.{ResumeFault}
use Rattle.share_logged.specs.Entries.{IsMadeNot, PartMakes}

-- the host numbers the inputs of these entries, one after another
abbrev pub PartsMake : HostPart → List EntryView → HostPart → Type 0
PartsMake p [] new = new ≡ p
PartsMake p (e ∷ es) new = (next : HostPart) × PartMakes p e next × PartsMake next es new

-- it numbers the inputs of the entries before this one, and then fails
pub record StopsAt (p : HostPart) (entries : List EntryView) (fault : ResumeFault) : Type 0 where
  pub before : List EntryView
  pub entry : EntryView
  pub after : List EntryView
  pub split : entries ≡ before ++ entry ∷ after
  pub next : HostPart
  pub made : PartsMake p before next
  pub failed : IsMadeNot next entry.time entry.source (next.count + 1) fault
