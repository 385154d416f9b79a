use Rattle.std.proofs.Common.{◌<◌, ℕ}
use Rattle.share_peers.specs.Table.{IsAt}
use Rattle.share_peers.proofs.finding.place_of.Given as goal

abbrev pub invariant-loop-place : goal.invariant-loop-place
invariant-loop-place l = (k : ℕ) → k < l.place → ¬ IsAt l.table k l.address
