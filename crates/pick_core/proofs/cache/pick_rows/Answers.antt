use Rattle.std.proofs.Common.{◌∙◌, None, ap, refl, arith, take_all}
use Rattle.std.specs.List.{fold}
use Rattle.pick_core.specs.Picked.{nearer}
use Rattle.pick_core.specs.Sites.{shown_rows}
use Rattle.pick_core.proofs.Rows.{shown_rows-nil}
use Rattle.pick_core.proofs.cache.pick_rows.Goals as goal

pub loop-at-init : goal.loop-at-init
loop-at-init c = rw shown_rows-nil refl

pub loop-at-preserved : goal.loop-at-preserved
loop-at-preserved c = c.pick_next-at.ensures.best c.loop-at.invariant

pub returns : goal.returns
returns c =
    let rows = c.args.rows.now in
    c.loop-at.invariant ∙ ap (λ rs. fold (nearer c.args.ray) None (shown_rows rs)) (take_all c.loop-at.at rows (omega arith))
