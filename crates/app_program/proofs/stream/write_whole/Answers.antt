use Rattle.std.proofs.Common.{rules}
use Rattle.app_program.proofs.stream.write_whole.Goals as goal

pub returns-in-Ok-flush-clause-ok : goal.returns-in-Ok-flush-clause-ok
returns-in-Ok-flush-clause-ok g c = search rules
