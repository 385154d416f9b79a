use Rattle.proto_parts.specs.Settled.{doing}
use Rattle.proto_nodes.specs.Shown.{shown}
use Rattle.proto_nodes.specs.Steps.{using}
use Rattle.proto_nodes.proofs.Begun.{number-goes}
use Rattle.proto_nodes.proofs.braces.begin_use.Goals as goal

pub returns-clause-goes : goal.returns-clause-goes
returns-clause-goes c = λ ps. number-goes ps (doing (using c.args.line c.args.name.now) (shown c.args.walker.now)) c.in_ok-number.number (shown c.put_use.new.self) c.in_ok-number.ensures.0
