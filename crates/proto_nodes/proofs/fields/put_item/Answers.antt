use Rattle.std.proofs.Common.{inr}
use Rattle.proto_meaning.specs.trees.Meaning.{declares}
use Rattle.proto_meaning.specs.declared.tree.ItemTree.TheVariants as tree_item
use Rattle.proto_nodes.specs.Shown.{shown}
use Rattle.proto_nodes.specs.Does.{field_does, given_by, route_does}
use Rattle.proto_nodes.proofs.Given.{item-as, wrong-item}
use Rattle.proto_nodes.proofs.Trees.{item-field, item-declaration, item-route, item-wrong}
use Rattle.proto_nodes.proofs.fields.put_item.Goals as goal

pub returns-in-Field-clause-goes : goal.returns-in-Field-clause-goes
returns-in-Field-clause-goes c =
    λ ps. item-as ps c.args.item.now (tree_item.Field c.in-Field.line c.in-Field.name c.in-Field.given) (field_does c.in-Field.line c.in-Field.name.now (given_by ps c.in-Field.given)) c.args.opened.now (shown c.args.walker.now) c.put_field.result c.put_field.new.walker _
    c.in-Field.is (item-field ps c.in-Field.line c.in-Field.name c.in-Field.given) (c.put_field.ensures.goes ps)

pub returns-in-Declaration-clause-goes : goal.returns-in-Declaration-clause-goes
returns-in-Declaration-clause-goes c =
    λ ps. item-as ps c.args.item.now (tree_item.Declaration c.in-Declaration.declaration c.in-Declaration.given) (declares c.in-Declaration.declaration.now (given_by ps c.in-Declaration.given)) c.args.opened.now (shown c.args.walker.now) c.put_declaration.result c.put_declaration.new.walker _
    c.in-Declaration.is (item-declaration ps c.in-Declaration.declaration c.in-Declaration.given) (c.put_declaration.ensures.goes ps)

pub returns-in-Route-clause-goes : goal.returns-in-Route-clause-goes
returns-in-Route-clause-goes c =
    λ ps. item-as ps c.args.item.now (tree_item.Route c.in-Route.route) (route_does c.in-Route.route.now) c.args.opened.now (shown c.args.walker.now) c.put_route.result c.put_route.new.walker _
    c.in-Route.is (item-route ps c.in-Route.route) (c.put_route.ensures.goes ps)

pub returns-in-Wrong-clause-goes : goal.returns-in-Wrong-clause-goes
returns-in-Wrong-clause-goes c = λ ps. inr (wrong-item ps c.args.item.now c.in-Wrong.fault c.args.opened.now (shown c.args.walker.now) c.in-Wrong.is (item-wrong ps c.in-Wrong.fault))
