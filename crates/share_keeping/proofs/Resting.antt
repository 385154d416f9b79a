-- A rest, by whether a viewer joins.
use Rattle.std.proofs.Common.{◌≡◌, ℕ, Bool, true, false, List, sym, subst}
use Rattle.std.specs.Prelude.{Option}
use Rattle.cascade_core.specs.Held.{StageView}
use Rattle.share_turns.specs.declared.traffic.Traffic.{Traffic}
use Rattle.share_keeping.specs.declared.joiners.Joiner.{Joiner}
use Rattle.share_keeping.specs.Joiners.{are_some, passed}
use Rattle.share_keeping.specs.Keeping.{IsGiven, IsQuiet, IsRest, IsRestOf}
use Rattle.share_keeping.specs.Shots.{ShotView}

module _ (mark : List ℕ) (stage : StageView) (whole : Bool) (js after : List (Option Joiner)) (before shot : Option ShotView) (a b : Option (List Traffic)) where
  pub rest_some : (some : Bool) → some ≡ true → IsGiven mark stage whole js after before shot a b → IsRestOf some mark stage whole js after before shot a b
  rest_some some e given = subst (λ (x : Bool). IsRestOf x mark stage whole js after before shot a b) (sym e) given

  pub rest_none : (some : Bool) → some ≡ false → whole ≡ true → IsQuiet js after shot a b → IsRestOf some mark stage whole js after before shot a b
  rest_none some e all quiet = subst (λ (x : Bool). IsRestOf x mark stage whole js after before shot a b) (sym e) (all, quiet)

pub rest_is : (mark : List ℕ) (stage : StageView) (millis : ℕ) (whole : Bool) (js now after : List (Option Joiner)) (before shot : Option ShotView) (a mid b : Option (List Traffic))
    → now ≡ passed millis js → mid ≡ a → IsRestOf (are_some now) mark stage whole now after before shot mid b → IsRest mark stage millis whole js after before shot a b
rest_is mark stage millis whole js now after before shot a mid b en ea h =
    subst (λ (x : List (Option Joiner)). IsRestOf (are_some x) mark stage whole x after before shot a b) en
    (subst (λ (x : Option (List Traffic)). IsRestOf (are_some now) mark stage whole now after before shot x b) ea h)
