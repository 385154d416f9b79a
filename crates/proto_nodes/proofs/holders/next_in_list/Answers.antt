use Rattle.classic_tree.specs.declared.tree.RawValue.TheVariants as value
use Rattle.proto_nodes.specs.Frames.{list_comes, value_comes}
use Rattle.proto_nodes.proofs.NodeSteps.{goes-as}
use Rattle.proto_nodes.proofs.Waiting.{list-done, list-next}
use Rattle.proto_nodes.proofs.holders.next_in_list.Goals as goal

pub returns-in_default-clause-goes : goal.returns-in_default-clause-goes
returns-in_default-clause-goes c =
    λ ps s. goes-as ps (list_comes ps c.args.holder c.args.listing.place c.args.listing.rest.now c.args.listing.numbers s) (value_comes ps c.args.holder c.args.listing.place (value.NodeList c.args.listing.numbers) s) c.keep.result s
    (list-done ps c.args.holder c.args.listing.place c.args.listing.rest.now c.args.listing.numbers s c.in_default.ensures) (c.keep.ensures.goes ps s)

pub returns-clause-goes : goal.returns-clause-goes
returns-clause-goes c = λ ps s. list-next ps c.args.holder c.args.listing c.set_rest.new.listing c.in-Some.node c.in-Some.rest s c.in-Some.ensures c.set_rest.ensures
