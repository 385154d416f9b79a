use Rattle.std.proofs.Common.{length}
use Rattle.script_running.proofs.ports.+place_from.Given as goal

abbrev pub decreases-place_from : goal.decreases-place_from
decreases-place_from l = length l.fields.now
