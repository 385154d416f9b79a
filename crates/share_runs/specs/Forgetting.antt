-- What a viewer of a run forgets of its list: the chains after old inputs (our choice).
use Rattle.std.specs.Prelude.{◌≡◌, ◌⊎◌, ℕ, ◌+◌, List, drop, length}
use Rattle.share_entries.specs.Entry.{EntryView}
use Rattle.share_runs.specs.declared.known.KnownList.{KnownList}
use Rattle.share_runs.specs.declared.viewer_run.ViewerRun.{ViewerRun}
use Rattle.share_runs.specs.Laws.{AreOfLog}

-- the last 1,024 chains stay
pub record Forgets (old new : KnownList) : Type 0 where
  pub gone : ℕ
  pub from : new.from ≡ old.from + gone
  pub chains : new.chains.items ≡ drop gone old.chains.items
  pub kept : length new.chains.items ≡ 1024
  pub starts : new.starts ≡ old.starts

-- or all do
abbrev pub MayForget : (old new : KnownList) → Type 0
MayForget old new = (new ≡ old) ⊎ Forgets old new

-- nothing else of the run changes
pub record RunMayForget (old new : ViewerRun) : Type 0 where
  pub known : MayForget old.known new.known
  pub others : new ≡ record old { known = new.known }

-- chains of a log that stay are still of that log
abbrev pub StaysOfLog : Type 0
StaysOfLog =
    (run : List ℕ) (log : List EntryView) (old new : KnownList) → Forgets old new
    → AreOfLog run log old.from old.chains.items → AreOfLog run log new.from new.chains.items
