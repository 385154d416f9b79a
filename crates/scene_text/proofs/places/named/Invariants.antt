use Rattle.std.proofs.Common.{◌≡◌, map}
use Rattle.std.specs.List.{range_with_len}
use Rattle.scene_text.specs.Places.{is_named}
use Rattle.scene_text.proofs.places.named.Given as goal

abbrev pub invariant-loop-node : goal.invariant-loop-node
invariant-loop-node l = l.found.items ≡ map (is_named l.scene l.routes) (range_with_len 0 l.node)
