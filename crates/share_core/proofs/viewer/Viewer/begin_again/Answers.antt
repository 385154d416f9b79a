use Rattle.std.proofs.Common.{◌+◌, List, sym, subst, arith}
use Rattle.std.specs.Prelude.{Option}
use Rattle.x3d_values.specs.Stamp.{StampedView}
use Rattle.cascade_core.specs.Held.{applied_of}
use Rattle.share_core.specs.Ahead.{InPlace}
use Rattle.share_core.proofs.Places.{InPlace-empty}
use Rattle.share_core.proofs.Rewinds.{load-most}
use Rattle.share_core.proofs.viewer.Viewer.begin_again.Goals as goal

pub invariant_of-self-2 : goal.invariant_of-self-2
invariant_of-self-2 g c =
    let next = applied_of c.load_into.new.stage.held + 1 in (
      load-most c.self.inside.stage c.load_into.new.stage c.self.inside.mark c.args.boot c.args.bytes.now c.in_ok-saved.saved _ (λ i. omega (arith, c.type_inv.bytes i)) c.in_ok-saved.ensures (λ m. let no = m.0 in cc),
      subst (λ (l : List (Option StampedView)). InPlace next l) (sym c.clear.ensures) (InPlace-empty next),
      c.self.invariant.2,
    )
