use Rattle.std.proofs.Common.{◌≡◌, drop}
use Rattle.scene_core.specs.Scene.{rows_at}
use Rattle.cascade_world.specs.Fits.{values_fit}
use Rattle.cascade_world.proofs.fits.values_fit.Given as goal

-- those that are left decide
abbrev pub invariant-loop-number : goal.invariant-loop-number
invariant-loop-number l =
    values_fit l.node_type l.number (drop l.number (rows_at l.scene l.node)) (drop l.number l.values) ≡ values_fit l.node_type 0 (rows_at l.scene l.node) l.values
