use Rattle.std.proofs.Common.{◌≡◌, take}
use Rattle.pick_core.specs.Trail.{positions}
use Rattle.pick_core.proofs.hit.Path.along.Given as goal

abbrev pub invariant-loop-place : goal.invariant-loop-place
invariant-loop-place l = l.path.items ≡ positions (take l.place-index l.trail)
