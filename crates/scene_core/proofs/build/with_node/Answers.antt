use Rattle.std.proofs.Common.{◌++◌, ◌∷◌, [], Ok}
use Rattle.scene_core.proofs.BehindLemmas.{found, gives-then}
use Rattle.scene_core.proofs.build.with_node.Goals as goal

pub returns : goal.returns
returns c =
    let look = c.in-Some.ensures.lookup in
    rw (found c.args.known.nodes.now c.args.n c.in-Some.node.now look.3.0 look.1)
    (gives-then (λ n. Ok (c.args.made ++ n ∷ [])) c.with_item.result c.node_of.result _ c.with_item.ensures (rw c.len-number.ensures at c.node_of.ensures))
