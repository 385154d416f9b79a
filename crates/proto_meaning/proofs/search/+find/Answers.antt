use Rattle.std.proofs.Common.{◌∙◌, sym}
use Rattle.proto_meaning.proofs.Equations.{item-field-finds, item-declaration-finds, item-route-finds, item-proto-finds, node-use-finds, statement-node-finds, statement-route-finds, statement-proto-finds}
use Rattle.proto_meaning.proofs.search.+find.Goals as goal

pub find_in_statement-returns-in-Node : goal.find_in_statement-returns-in-Node
find_in_statement-returns-in-Node t c = rw c.in-Node.is (c.find_in_node.ensures ∙ sym (statement-node-finds c.in-Node.node c.args.own.now c.args.hidden))

pub find_in_statement-returns-in-Route : goal.find_in_statement-returns-in-Route
find_in_statement-returns-in-Route t c = rw c.in-Route.is (sym (statement-route-finds c.in-Route._route c.args.own.now c.args.hidden))

pub find_in_statement-returns-in-Proto : goal.find_in_statement-returns-in-Proto
find_in_statement-returns-in-Proto t c = rw c.in-Proto.is (c.find_in_proto.ensures ∙ sym (statement-proto-finds c.in-Proto.proto c.args.own.now c.args.hidden))

pub find_in_node-returns-in-Use : goal.find_in_node-returns-in-Use
find_in_node-returns-in-Use t c = rw c.in-Use.is (sym (node-use-finds c.in-Use._line c.in-Use._name c.args.own.now c.args.hidden))

pub find_in_item-returns-in-Field : goal.find_in_item-returns-in-Field
find_in_item-returns-in-Field t c = rw c.in-Field.is (c.find_in_given.ensures ∙ sym (item-field-finds c.in-Field._line c.in-Field._name c.in-Field.given c.args.own.now c.args.hidden))

pub find_in_item-returns-in-Declaration : goal.find_in_item-returns-in-Declaration
find_in_item-returns-in-Declaration t c = rw c.in-Declaration.is (c.find_in_given-in-Declaration.ensures ∙ sym (item-declaration-finds c.in-Declaration.declaration c.args.own.now c.args.hidden))

pub find_in_item-returns-in-Route : goal.find_in_item-returns-in-Route
find_in_item-returns-in-Route t c = rw c.in-Route.is (sym (item-route-finds c.in-Route._route c.args.own.now c.args.hidden))

pub find_in_item-returns-in-Proto : goal.find_in_item-returns-in-Proto
find_in_item-returns-in-Proto t c = rw c.in-Proto.is (c.find_in_proto.ensures ∙ sym (item-proto-finds c.in-Proto.proto c.args.own.now c.args.hidden))
