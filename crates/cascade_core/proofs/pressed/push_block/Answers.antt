use Rattle.scene_core.specs.Scene.{types_of}
use Rattle.cascade_world.specs.Pointer.{tracking}
use Rattle.cascade_core.proofs.Walks.{untouched-block}
use Rattle.cascade_core.proofs.pressed.push_block.Goals as goal

pub returns-then-is_untouched : goal.returns-then-is_untouched
returns-then-is_untouched c =
    untouched-block (tracking c.args.scene.now c.args.world.now c.args.pointer) c.args.world.now (types_of c.args.scene.now) c.args.pointer.who c.args.pressed.now.items c.args.block c.args.count
    (λ sensor within. c.is_untouched.ensures c.args.pointer.who sensor c.if-is_untouched.true within)
