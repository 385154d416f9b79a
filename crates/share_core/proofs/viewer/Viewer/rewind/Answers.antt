use Rattle.share_core.proofs.Rewinds.{rewind-step}
use Rattle.share_core.proofs.viewer.Viewer.rewind.Goals as goal

pub returns-clause-law : goal.returns-clause-law
returns-clause-law g c = λ from small fits is. rewind-step c.args.self.now c.args.boot c.args.bytes.now c.begin_again.result c.begin_again.new.self.state c.begin_again.ensures.mark c.begin_again.ensures.step from small fits is
