use Rattle.std.proofs.Common.{◌∙◌, Err, ap, inr, sym}
use Rattle.proto_nodes.specs.Shown.{shown}
use Rattle.proto_nodes.proofs.Stepping.{none-twice, one-twice}
use Rattle.proto_nodes.proofs.walker.Walker.check_interface.Goals as goal

pub returns-in_default : goal.returns-in_default
returns-in_default c = (none-twice c.args.interface.now (shown c.args.self.now) c.in_default.ensures, c.requires)

pub returns : goal.returns
returns c = inr (
    one-twice c.args.interface.now (shown c.args.self.now) c.in-Some.line c.in-Some.ensures
    ∙ ap (λ f. Err f) (sym c.on_line.ensures))
