use Rattle.app_program.proofs.Refusals.{no_run_if}
use Rattle.app_program.proofs.runs.run_job.Goals as goal

pub returns-in-Ok-clause-refused : goal.returns-in-Ok-clause-refused
returns-in-Ok-clause-refused g c =
    no_run_if c.args.output c.run_read.result (g.R.Read.remaining c.args.reader.now) (g.R.Read.remaining c.read_job.new.reader)
    (g.W.Write.contents c.args.writer.now) (g.W.Write.contents c.run_read.new.writer) c.in-Ok.job c.in-Ok.ensures.job
    c.run_read.ensures.refused
