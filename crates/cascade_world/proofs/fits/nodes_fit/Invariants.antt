use Rattle.std.proofs.Common.{◌≡◌, drop}
use Rattle.scene_core.specs.Scene.{shapes_of}
use Rattle.cascade_world.specs.Fits.{nodes_fit}
use Rattle.cascade_world.proofs.fits.nodes_fit.Given as goal

-- those that are left decide
abbrev pub invariant-loop-node : goal.invariant-loop-node
invariant-loop-node l =
    nodes_fit (drop l.node (shapes_of l.scene)) (drop l.node l.world.fields) (drop l.node l.world.sensors) (drop l.node l.world.pointing)
    ≡ nodes_fit (shapes_of l.scene) l.world.fields l.world.sensors l.world.pointing
