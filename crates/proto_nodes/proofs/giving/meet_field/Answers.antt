use Rattle.std.proofs.Common.{◌∙◌, true, false, ap}
use Rattle.proto_nodes.specs.Shown.{shown}
use Rattle.proto_nodes.specs.Giving.{is_type}
use Rattle.proto_nodes.proofs.GivingGiven.{met-there}
use Rattle.proto_nodes.proofs.giving.meet_field.Goals as goal

pub returns-in-Node : goal.returns-in-Node
returns-in-Node c =
    λ o is. met-there o true c.args.number c.args.items (shown c.args.walker.now) c.meet_field.result c.meet_field.new.self (is ∙ ap is_type c.in-Node.is) c.meet_field.ensures

pub returns-in-Instance : goal.returns-in-Instance
returns-in-Instance c =
    λ o is. met-there o false c.args.number c.args.items (shown c.args.walker.now) c.meet_item.result c.meet_item.new.self (is ∙ ap is_type c.in-Instance.is) c.meet_item.ensures
