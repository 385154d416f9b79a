-- A run of the law's network whose answers report memory faults: an answer says that memory ran out
-- exactly when it did.
use Rattle.std.specs.Prelude.{◌≡◌, ℕ, ◌⊎◌, true, false, List, [], ◌∷◌, Some}
use Rattle.share_law.specs.declared.step.Step.{Step}
use Rattle.share_law.specs.Machine.{Machine}
use Rattle.share_law.specs.Network.{Network, Answer, step, refused}
use Rattle.share_law.specs.Steps.{says_memory}

-- from old, the step may be answered so and leave new: either it had its memory and the answer does
-- not say otherwise, or memory ran out and the answer says so
abbrev pub IsToldStep : {W : Type 0} → Machine W → Network W → Step → Answer → Network W → Type 0
IsToldStep m old s answer new =
    ((says_memory answer ≡ false) × (step m old s ≡ (answer, new)))
    ⊎ ((says_memory answer ≡ true) × ((j : ℕ) × (refused m old s j ≡ Some (answer, new))))

-- from old, the steps may be answered so, one after another, and leave new
abbrev pub ToldRun : {W : Type 0} → Machine W → Network W → List Step → List Answer → Network W
    → Type 0
ToldRun {W} m old [] [] new = new ≡ old
ToldRun {W} m old (s ∷ ss) (a ∷ rest) new =
    (mid : Network W) × IsToldStep m old s a mid × ToldRun m mid ss rest new
ToldRun m old [] (a ∷ rest) new = ⊥
ToldRun m old (s ∷ ss) [] new = ⊥
