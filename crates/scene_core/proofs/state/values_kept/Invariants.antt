use Rattle.std.proofs.Common.{◌≡◌, ◌++◌, drop, map}
use Rattle.std.specs.List.{zip}
use Rattle.scene_core.specs.Scene.{kept, shape_of}
use Rattle.scene_core.specs.Shape.{rows_of}
use Rattle.scene_core.proofs.state.values_kept.Given as goal

-- what is kept so far, with the rest behind it, is all
abbrev pub invariant-loop-number : goal.invariant-loop-number
invariant-loop-number l =
    l.made ++ map (λ p. kept p.0 p.1) (zip (drop l.number (rows_of (shape_of l.node))) (drop l.number l.node.values))
    ≡ map (λ p. kept p.0 p.1) (zip (rows_of (shape_of l.node)) l.node.values)
