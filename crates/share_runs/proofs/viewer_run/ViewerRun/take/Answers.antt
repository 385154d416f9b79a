use Rattle.share_runs.proofs.Knowing.{heard_of, keeps}
use Rattle.std.specs.Option.{option_map}
use Rattle.share_runs.specs.Steps.{step_of}
use Rattle.share_runs.proofs.viewer_run.ViewerRun.take.Goals as goal

pub returns-clause-heard : goal.returns-clause-heard
returns-clause-heard c = heard_of (λ p. p.items) c.taken.result c.args.self.now c.taken.new.self c.args.from c.args.message.now c.taken.ensures

pub returns-clause-keeps : goal.returns-clause-keeps
returns-clause-keeps c = keeps (step_of c.args.self.now.session c.args.self.now.known c.args.message.now) c.args.self.now c.taken.new.self c.args.from c.args.message.now (option_map (λ p. p.items) c.taken.result) c.taken.ensures
