use Rattle.std.proofs.Common.{◌≡◌, ◌-◌}
use Rattle.std.specs.List.{fold, range_with_len}
use Rattle.scene_core.specs.Scene.{types_of}
use Rattle.cascade_world.specs.Pointer.{tracking}
use Rattle.cascade_core.specs.Walks.{appended, presses, where_passes}
use Rattle.cascade_core.proofs.pressed.push_some.Given as goal

-- those so far, with the nodes that are left
abbrev pub invariant-loop-node : goal.invariant-loop-node
invariant-loop-node l =
    fold (where_passes (presses l.world (types_of l.scene) l.pointer.who) (appended (tracking l.scene l.world l.pointer))) l.pressed.items (range_with_len l.node (l.end - l.node))
    ≡ fold (where_passes (presses l.world (types_of l.scene) l.pointer.who) (appended (tracking l.scene l.world l.pointer))) l.fn.pressed.items (range_with_len l.start (l.end - l.start))
