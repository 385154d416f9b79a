use Rattle.std.proofs.Common.{◌≡◌, ◌<◌, ◌+◌, ◌%◌, ℕ, true}
use Rattle.share_peers.specs.Table.{is_kept}
use Rattle.share_peers.proofs.finding.free_place.Given as goal

abbrev pub invariant-loop-step : goal.invariant-loop-step
invariant-loop-step l = (k : ℕ) → k < l.step → is_kept l.kept ((l.next + k) % l.count) ≡ true
