use Rattle.std.proofs.Common.{◌∙◌, ap, sym}
use Rattle.proto_parts.specs.Settled.{doing}
use Rattle.proto_meaning.specs.trees.Meaning.{item}
use Rattle.proto_nodes.specs.Shown.{shown}
use Rattle.proto_nodes.specs.Does.{inside_now, open_does}
use Rattle.proto_nodes.specs.Frames.{item_comes}
use Rattle.proto_nodes.proofs.Given.{goes-on-as, item-next}
use Rattle.proto_nodes.proofs.fields.next_item.Goals as goal

pub returns-clause-goes : goal.returns-clause-goes
returns-clause-goes c =
    λ ps. goes-on-as ps (doing (open_does ps c.args.opened.now (inside_now ps c.args.opened.now)) (shown c.args.walker.now))
    (item_comes ps (item ps c.in-Some.item.now).does c.set_rest.new.opened (shown c.args.walker.now)) c.put_item.result c.put_item.new.walker c.put_item.new.opened
    (item-next ps c.args.opened.now c.in-Some.item c.in-Some.rest (shown c.args.walker.now) c.in-Some.ensures
    ∙ ap (λ o. item_comes ps (item ps c.in-Some.item.now).does o (shown c.args.walker.now)) (sym c.set_rest.ensures))
    (c.put_item.ensures.goes ps)
