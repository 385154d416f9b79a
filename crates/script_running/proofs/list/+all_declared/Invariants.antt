use Rattle.std.proofs.Common.{length}
use Rattle.script_running.proofs.list.+all_declared.Given as goal

abbrev pub decreases-all_declared : goal.decreases-all_declared
decreases-all_declared l = length l.fields.now
