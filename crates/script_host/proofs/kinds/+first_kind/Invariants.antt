use Rattle.std.proofs.Common.{length}
use Rattle.script_host.proofs.kinds.+first_kind.Given as goal

abbrev pub decreases-first_kind : goal.decreases-first_kind
decreases-first_kind l = length l.kinds.now
