use Rattle.std.proofs.Common.{◌≡◌, drop, []}
use Rattle.std.specs.List.{fold}
use Rattle.route_core.specs.Firsts.{added}
use Rattle.route_core.specs.Seen.{Holds}
use Rattle.route_core.proofs.firsts.without_repeats.Given as goal

-- the routes so far, with the rest added, are all; the set has those so far
abbrev pub invariant-loop-route : goal.invariant-loop-route
invariant-loop-route l =
    (fold added l.kept (drop l.route-index l.routes) ≡ fold added [] l.routes) × Holds l.seen l.kept
