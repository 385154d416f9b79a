use Rattle.std.proofs.Common.{◌≡◌, ◌-◌, ◌*◌, []}
use Rattle.std.specs.List.{fold, range_with_len}
use Rattle.scene_core.specs.Scene.{types_of}
use Rattle.cascade_world.specs.Pointer.{tracking}
use Rattle.cascade_core.specs.Walks.{appended, presses, where_passes}
use Rattle.cascade_core.proofs.pressed.list_pressed.Given as goal

-- those so far, with the blocks that are left
abbrev pub invariant-loop-block : goal.invariant-loop-block
invariant-loop-block l =
    fold (where_passes (presses l.world (types_of l.scene) l.pointer.who) (appended (tracking l.scene l.world l.pointer))) l.pressed.items (range_with_len (l.block * 32) (l.count - l.block * 32))
    ≡ fold (where_passes (presses l.world (types_of l.scene) l.pointer.who) (appended (tracking l.scene l.world l.pointer))) [] (range_with_len (0 * 32) (l.count - 0 * 32))
