use Rattle.std.proofs.Common.{length}
use Rattle.proto_resolver.proofs.scopes.+seen.Given as goal

abbrev pub decreases-seen : goal.decreases-seen
decreases-seen l = length l.scopes.now
