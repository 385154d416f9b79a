use Rattle.std.proofs.Common.{◌≡◌, ◌++◌}
use Rattle.std.specs.Prelude.{flat_map}
use Rattle.std.specs.List.{range_with_len}
use Rattle.scene_text.specs.Places.{nodes_within}
use Rattle.scene_text.proofs.places.places.Given as goal

abbrev pub invariant-loop-node : goal.invariant-loop-node
invariant-loop-node l = l.found.items ≡ l.scene.roots ++ l.scene.helpers ++ flat_map (nodes_within l.scene) (range_with_len 0 l.node)
