use Rattle.proto_blame.proofs.Walks.{node_is}
use Rattle.proto_blame.proofs.walk.+blame.Goals as goal

pub node_blamed-returns-in_ok-items-in-Full : goal.node_blamed-returns-in_ok-items-in-Full
node_blamed-returns-in_ok-items-in-Full t c =
    node_is c.args.node.now c.in-Full.at c.in-Full._name c.in-Full.word c.as_str.result.now c.in-Full.items c.as_slice.result.now c.in_ok-items-in-Full.items c.holder-held.result c.args.line c.full_node.result
    c.in-Full.is c.as_str.ensures c.holder-held.ensures c.as_slice.ensures c.in_ok-items-in-Full.ensures c.full_node.ensures
