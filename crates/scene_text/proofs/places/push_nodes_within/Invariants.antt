use Rattle.std.proofs.Common.{◌≡◌, ◌++◌}
use Rattle.std.specs.Prelude.{flat_map}
use Rattle.std.specs.List.{range_with_len}
use Rattle.scene_core.specs.Deep.{linked}
use Rattle.scene_core.specs.Scene.{value_at}
use Rattle.scene_text.proofs.places.push_nodes_within.Given as goal

abbrev pub invariant-loop-number : goal.invariant-loop-number
invariant-loop-number l = l.out.items ≡ l.initial.out.items ++ flat_map (λ number. linked (value_at l.scene l.node number)) (range_with_len 0 l.number)
