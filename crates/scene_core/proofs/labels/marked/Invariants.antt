use Rattle.std.proofs.Common.{◌≡◌, drop}
use Rattle.std.specs.List.{fold}
use Rattle.scene_core.specs.Labels.{mark, unknown, names_of, known_of}
use Rattle.scene_core.proofs.labels.marked.Given as goal

-- what is known so far, with the names of the rest, is what is known of all
abbrev pub invariant-loop-n : goal.invariant-loop-n
invariant-loop-n l = fold mark (known_of l.marks) (names_of l.nodes (drop l.n-index l.order)) ≡ fold mark unknown (names_of l.nodes l.order)
