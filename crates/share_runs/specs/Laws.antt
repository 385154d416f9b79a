-- What holds of the inputs that a viewer in a run hands on.
use Rattle.std.specs.Prelude.{◌≡◌, ◌⊎◌, ℕ, true, List, Some, length, take}
use Rattle.share_entries.specs.Chain.{Collide, chain_after}
use Rattle.share_entries.specs.Entry.{EntryView, entry_codec}
use Rattle.share_session.specs.declared.message.Input2.{Input2}
use Rattle.share_session.specs.declared.message.Body2.TheVariants.{Input}
use Rattle.share_session.specs.Follows.{IsOfLog}
use Rattle.share_runs.specs.declared.known.KnownList.{KnownList}
use Rattle.share_runs.specs.declared.step.RunStep.TheVariants as step
use Rattle.share_runs.specs.Known.{IsOf, chain_in}
use Rattle.share_runs.specs.Steps.{body_step}

-- in its ranges
pub record Fits (i : Input2) : Type 0 where
  pub entry : entry_codec.fits i.entry ≡ true
  pub chain : length i.chain ≡ 16

-- Two inputs with one number, of the list that a viewer knows, are one input, or two texts collide.
abbrev pub OneList : Type 0
OneList =
    (from : ℕ) (chains : List (List ℕ)) (i j : Input2) → Fits i → Fits j
    → IsOf from chains i → IsOf from chains j → i.number ≡ j.number
    → ((i.chain ≡ j.chain) × (i.entry ≡ j.entry)) ⊎ Collide

-- the chains that are known are of this log
abbrev pub AreOfLog : (run : List ℕ) → List EntryView → (from : ℕ) → List (List ℕ) → Type 0
AreOfLog run log from chains =
    (n : ℕ) (c : List ℕ) → chain_in from chains n ≡ Some c → c ≡ chain_after run (take n log)

-- No input of a log is of another list, for a viewer that knows chains of that log.
abbrev pub NeverOther : Type 0
NeverOther =
    (run : List ℕ) (log : List EntryView) (k : KnownList) (i : Input2)
    → AreOfLog run log k.from k.chains.items → IsOfLog run log i
    → body_step k (Input i) ≡ step.OtherList → ⊥
