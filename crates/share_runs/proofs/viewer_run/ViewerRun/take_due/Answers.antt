use Rattle.share_runs.proofs.Knowing.{due_taken}
use Rattle.share_runs.proofs.viewer_run.ViewerRun.take_due.Goals as goal

pub returns : goal.returns
returns c = record { exact = due_taken (λ p. p.items) c.args.self.now.held.items c.deref.result.now c.due_of.result c.in-Some.early c.take.result c.in-Some-take.packet c.args.self.now c.take.new.self c.deref.ensures.value c.due_of.ensures c.in-Some.is c.in-Some-take.is c.take.ensures.exact }
