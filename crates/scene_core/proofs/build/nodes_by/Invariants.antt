use Rattle.std.proofs.Common.{◌≡◌, drop, []}
use Rattle.std.specs.Prelude.{slice_get}
use Rattle.scene_core.specs.Building.{with_node}
use Rattle.scene_core.specs.Faults.{through}
use Rattle.scene_core.specs.Labels.{known_of, known_alone}
use Rattle.scene_core.proofs.build.nodes_by.Given as goal

-- the nodes that are left decide
abbrev pub invariant-loop-n : goal.invariant-loop-n
invariant-loop-n l =
    through (λ n made. with_node l.nodes l.numbering.numbers (λ name. known_alone (known_of l.marks name)) (slice_get l.nodes n) made) l.numbering.order []
    ≡ through (λ n made. with_node l.nodes l.numbering.numbers (λ name. known_alone (known_of l.marks name)) (slice_get l.nodes n) made) (drop l.n-index l.numbering.order) l.made
