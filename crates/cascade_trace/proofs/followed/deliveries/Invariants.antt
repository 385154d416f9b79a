use Rattle.std.proofs.Common.{◌≡◌, take}
use Rattle.std.specs.Prelude.{count_by}
use Rattle.cascade_trace.specs.Ends.{has_sent}
use Rattle.cascade_trace.proofs.followed.deliveries.Given as goal

-- the routes of the outputs so far
abbrev pub invariant-loop-source : goal.invariant-loop-source
invariant-loop-source l = l.count ≡ count_by (λ r. has_sent (take l.source-index l.sent) r.source) l.routes
