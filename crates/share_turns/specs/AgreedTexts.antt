-- The texts that are written once all have agreed, and how a whole run ends early.
use Rattle.std.specs.Prelude.{◌≡◌, ◌⊎◌, ℕ, List, [], ◌∷◌, ◌++◌, slice_get, codes, decimal, Some}
use Rattle.x3d_values.specs.Stamp.{StampedView}
use Rattle.share_core.specs.Viewer.{ViewerView}
use Rattle.share_turns.specs.declared.fault.SeriesFault.{SeriesFault}
use Rattle.share_turns.specs.declared.fault.SeriesFault.TheVariants.{Turn, TurnsUsedUp, Join}
use Rattle.share_turns.specs.declared.fault.TurnFault.{TurnFault}
use Rattle.share_turns.specs.declared.fault.TurnFault.TheVariants.{Memory}
use Rattle.share_turns.specs.Views.{AreAppended, IsTextFault}
use Rattle.share_turns.specs.Seats.{Ways}
use Rattle.share_turns.specs.Round.{Meeting}
use Rattle.share_turns.specs.Agreeing.{AreAgreed, AreNotCaughtUp, AreCut}

-- the line with the number of inputs that all have agreed on
abbrev pub agreed_line : (count : ℕ) → List ℕ
agreed_line count = codes "agreed " ++ decimal count ++ 10 ∷ []

-- the line, and the texts of viewer 0
pub record IsAgreedText (count : ℕ) (viewers : List ViewerView) (old new : List ℕ) : Type 0 where
  pub first : ViewerView
  pub is : slice_get viewers 0 ≡ Some first
  pub texts : AreAppended first (old ++ agreed_line count) new

-- memory was refused, or viewer 0 is spoiled
abbrev pub IsAgreedTextFault : List ViewerView → TurnFault → Type 0
IsAgreedTextFault viewers fault =
    (fault ≡ Memory) ⊎ ((first : ViewerView) × (slice_get viewers 0 ≡ Some first)
    × IsTextFault first.state.view fault)

-- the rounds ended with this fault, or all agreed and a text failed with it
abbrev pub IsAgreeRunEnd : {P : Type 0} → Ways P → (mark : List ℕ) → List StampedView
    → (own rounds : ℕ)
    → Meeting P → SeriesFault → Meeting P → Type 0
IsAgreeRunEnd ways mark steps own rounds old TurnsUsedUp new =
    AreNotCaughtUp ways mark steps own rounds old new
IsAgreeRunEnd ways mark steps own rounds old (Turn fault) new =
    AreCut ways mark steps own rounds old fault new
    ⊎ (AreAgreed ways mark steps own rounds old new
    × IsAgreedTextFault new.seats.viewers fault)
IsAgreeRunEnd ways mark steps own rounds old (Join fault) new = ⊥
