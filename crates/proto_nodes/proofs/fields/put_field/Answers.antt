use Rattle.proto_parts.specs.Fields.{numbered}
use Rattle.proto_meaning.specs.trees.Meaning.{gives}
use Rattle.proto_nodes.specs.Shown.{shown}
use Rattle.proto_nodes.specs.Does.{field_does, given_by}
use Rattle.proto_nodes.specs.Frames.{item_comes}
use Rattle.proto_nodes.proofs.Given.{field-known, goes-on-as}
use Rattle.proto_nodes.proofs.fields.put_field.Goals as goal

pub returns-clause-goes : goal.returns-clause-goes
returns-clause-goes c =
    λ ps. goes-on-as ps (item_comes ps (field_does c.args.line c.args.name.now (given_by ps c.args.given.now)) c.args.opened.now (shown c.args.walker.now))
    (item_comes ps (λ i. gives c.args.line (numbered c.args.name.now c.in-Some.field) c.has-twice.result (given_by ps c.args.given.now) i) c.args.opened.now (shown c.args.walker.now))
    c.put_given.result c.put_given.new.walker c.put_given.new.opened
    (field-known ps c.args.line c.args.name.now (given_by ps c.args.given.now) c.args.opened.now (shown c.args.walker.now) c.in-Some.field c.has-twice.result c.in-Some.ensures c.has-twice.ensures)
    (c.put_given.ensures.goes ps)
