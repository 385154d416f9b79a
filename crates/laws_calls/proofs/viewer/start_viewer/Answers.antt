use Rattle.laws_calls.proofs.Begins.{starts}
use Rattle.std.proofs.Common.{◌∙◌}
use Rattle.laws_calls.proofs.viewer.start_viewer.Goals as goal

pub returns : goal.returns
returns g c = λ ps k s r. c.start.ensures ∙ starts c.args.mark c.args.stage c.args.who c.args.boot ps k s r
