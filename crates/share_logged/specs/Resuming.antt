-- Why a host doesn't begin with the entries of a log.
use Rattle.std.specs.Prelude.{◌≡◌, ℕ, ◌+◌, ◌<◌, List, length, take, ⊤}
use Rattle.share_entries.specs.Entry.{EntryView}
use Rattle.share_logged.specs.declared.fault.ResumeFault.{ResumeFault}
use Rattle.share_logged.specs.declared.fault.ResumeFault.TheVariants.{Memory, NotALog}
use Rattle.share_logged.specs.Making.{IsLogOf}

-- the entries before number n are a log, and with entry n they are not
pub record BreaksAt (viewers : ℕ) (entries : List EntryView) (n : ℕ) : Type 0 where
  pub before : ℕ
  pub number : n ≡ before + 1
  pub within : before < length entries
  pub log : IsLogOf viewers (take before entries)
  pub broken : IsLogOf viewers (take (before + 1) entries) → ⊥

abbrev pub WhyNot : (viewers : ℕ) → List EntryView → ResumeFault → Type 0
WhyNot viewers entries (NotALog n) = BreaksAt viewers entries n
WhyNot viewers entries Memory = ⊤
