use Rattle.std.proofs.Common.{◌+◌, ◌*◌, ◌∙◌, ap, refl, ℕ}
use Rattle.scene_core.specs.Scene.{types_of}
use Rattle.cascade_world.specs.Nodes.{is_of}
use Rattle.cascade_core.specs.Course.{seen}
use Rattle.cascade_core.specs.Walks.{where_passes}
use Rattle.cascade_core.proofs.Walks.{block_is, block_still, passed-still}
use Rattle.cascade_core.proofs.walk.walk_block.Goals as goal

pub returns-then-skips-clause-course : goal.returns-then-skips-clause-course
returns-then-skips-clause-course g c =
    let passes = is_of g.V.VisitsNodes.wanted (types_of c.args.routed.now.scene) in
    let step = g.V.VisitsNodes.step c.args.visitor.now c.args.routed.now in
    block_still (where_passes passes step) (seen c.args.course.now) c.args.block c.args.count
    (λ node within. passed-still (passes node) (step (seen c.args.course.now) node) (seen c.args.course.now)
    (c.skips.ensures c.args.routed.now (seen c.args.course.now) node c.if-skips.true within refl))

pub returns-clause-course : goal.returns-clause-course
returns-clause-course g c =
    rw c.remember.ensures
    (c.in_ok-walk_range.ensures.course
    ∙ block_is _ _ c.args.block c.args.count (c.args.block * 32) (c.args.block * 32 + c.min-many.result) refl (ap (λ (k : ℕ). c.args.block * 32 + k) c.min-many.ensures))

pub returns-clause-rest : goal.returns-clause-rest
returns-clause-rest g c = rw c.remember.ensures c.in_ok-walk_range.ensures.rest

pub returns-clause-scripts : goal.returns-clause-scripts
returns-clause-scripts g c = record { kinds = c.walk_range.ensures.scripts.kinds; count = c.walk_range.ensures.scripts.count }
