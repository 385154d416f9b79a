use Rattle.std.proofs.Common.{◌≡◌, drop}
use Rattle.cascade_world.specs.Fits.{all_lead}
use Rattle.cascade_world.proofs.fits.all_lead.Given as goal

-- those that are left decide
abbrev pub invariant-loop-node : goal.invariant-loop-node
invariant-loop-node l = all_lead l.scene l.node (drop l.node l.pointing) ≡ all_lead l.scene 0 l.pointing
