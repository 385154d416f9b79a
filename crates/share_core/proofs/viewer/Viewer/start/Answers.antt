use Rattle.std.proofs.Common.{◌≡◌, ◌+◌, List, ap, sym, subst, ◌∙◌, arith}
use Rattle.std.specs.Prelude.{Option}
use Rattle.x3d_values.specs.Stamp.{StampedView}
use Rattle.cascade_core.specs.Held.{applied_of}
use Rattle.cascade_core.proofs.Turns.{opening-at}
use Rattle.share_core.specs.Ahead.{InPlace}
use Rattle.share_core.proofs.Places.{InPlace-empty}
use Rattle.share_core.proofs.viewer.Viewer.start.Goals as goal

-- an opening world has had no input
-- src/viewer.rt:70:5
pub invariant_of-result : goal.invariant_of-result
invariant_of-result g c =
    let none : applied_of c.args.stage.held ≡ 0 = ap applied_of c.requires.fresh ∙ (opening-at c.args.stage.scene c.args.stage.routes).0 in
    let next = applied_of c.args.stage.held + 1 in (
      omega (arith, none),
      subst (λ (l : List (Option StampedView)). InPlace next l) (sym c.new.ensures) (InPlace-empty next),
      search,
    )
