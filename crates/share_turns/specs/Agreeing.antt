-- Rounds, one after another, until all steps are issued and every viewer has caught up.
use Rattle.std.specs.Prelude.{◌≡◌, ℕ, zero, suc, ◌≤◌, ◌<◌, ◌==◌, ◌&&◌, Bool, true, false, List, []}
use Rattle.std.specs.Prelude.{◌∷◌, length, slice_get, if◌then◌else◌, Option, None}
use Rattle.x3d_values.specs.Stamp.{StampedView}
use Rattle.share_core.specs.Viewer.{ViewerView}
use Rattle.share_turns.specs.declared.fault.SeriesFault.{SeriesFault}
use Rattle.share_turns.specs.declared.fault.SeriesFault.TheVariants.{Turn, TurnsUsedUp, Join}
use Rattle.share_turns.specs.declared.fault.TurnFault.{TurnFault}
use Rattle.share_turns.specs.Views.{applied_by, one_more_if}
use Rattle.share_turns.specs.Seats.{Ways}
use Rattle.share_turns.specs.Round.{Meeting, IsRoundOf, IsRoundEnd}

-- every viewer has applied n inputs
abbrev pub are_at : (n : ℕ) → List ViewerView → Bool
are_at n [] = true
are_at n (v ∷ vs) = (applied_by v v.state == n) && are_at n vs

-- the host has numbered all issued steps, and every viewer has applied them
abbrev pub is_caught_up : {P : Type 0} → (issued : ℕ) → Meeting P → Bool
is_caught_up issued m = (m.host.count == issued) && are_at issued m.seats.viewers

-- the next step, if all have caught up; a round issues it
abbrev pub due : {P : Type 0} → List StampedView → (issued : ℕ) → Meeting P → Option StampedView
due steps issued m = if is_caught_up issued m then slice_get steps issued else None

-- all steps are issued, and every viewer has caught up
abbrev pub is_over : {P : Type 0} → List StampedView → (issued : ℕ) → Meeting P → Bool
is_over steps issued m = is_caught_up issued m && (issued == length steps)

-- `rounds` rounds, each while it isn't over and with the step that is due; `issued` steps were
-- issued
abbrev pub Rounds : {P : Type 0} → Ways P → (mark : List ℕ) → List StampedView → (own rounds : ℕ)
    → (old : Meeting P) → (issued : ℕ) → (new : Meeting P) → Type 0
Rounds ways mark steps own zero old issued new = (issued ≡ 0) × (new ≡ old)
Rounds {P} ways mark steps own (suc n) old issued new =
    (mid : Meeting P) × (before : ℕ) × (did : Bool)
    × Rounds ways mark steps own n old before mid
    × (is_over steps before mid ≡ false)
    × IsRoundOf ways mark (due steps before mid) own mid did new
    × (issued ≡ one_more_if did before)

-- rounds, until all is over
pub record AreAgreed {P : Type 0} (ways : Ways P) (mark : List ℕ) (steps : List StampedView)
    (own rounds : ℕ) (old new : Meeting P) : Type 0 where
  pub done : ℕ
  pub most : done ≤ rounds
  pub turned : Rounds ways mark steps own done old (length steps) new
  pub caught_up : is_caught_up (length steps) new ≡ true

-- all the rounds were run, and it isn't over
pub record AreNotCaughtUp {P : Type 0} (ways : Ways P) (mark : List ℕ) (steps : List StampedView)
    (own rounds : ℕ) (old new : Meeting P) : Type 0 where
  pub issued : ℕ
  pub turned : Rounds ways mark steps own rounds old issued new
  pub going : is_over steps issued new ≡ false

-- rounds, up to one that ended early
pub record AreCut {P : Type 0} (ways : Ways P) (mark : List ℕ) (steps : List StampedView)
    (own rounds : ℕ) (old : Meeting P) (fault : TurnFault) (new : Meeting P) : Type 0 where
  pub done : ℕ
  pub fewer : done < rounds
  pub mid : Meeting P
  pub issued : ℕ
  pub turned : Rounds ways mark steps own done old issued mid
  pub going : is_over steps issued mid ≡ false
  pub last : IsRoundEnd ways mark (due steps issued mid) own mid fault new

abbrev pub IsAgreeEnd : {P : Type 0} → Ways P → (mark : List ℕ) → List StampedView
    → (own rounds : ℕ)
    → Meeting P → SeriesFault → Meeting P → Type 0
IsAgreeEnd ways mark steps own rounds old TurnsUsedUp new =
    AreNotCaughtUp ways mark steps own rounds old new
IsAgreeEnd ways mark steps own rounds old (Turn fault) new =
    AreCut ways mark steps own rounds old fault new
IsAgreeEnd ways mark steps own rounds old (Join fault) new = ⊥
