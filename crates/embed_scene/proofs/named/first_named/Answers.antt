use Rattle.std.proofs.Common.{sym, ◌∙◌}
use Rattle.embed_scene.specs.Named.{is_named}
use Rattle.embed_scene.proofs.Firsts.{one_more}
use Rattle.embed_scene.proofs.named.first_named.Goals as goal

pub loop-node-preserved : goal.loop-node-preserved
loop-node-preserved c =
    one_more (is_named c.args.scene.now c.args.name.now) c.loop-node.node c.loop-node.invariant
    (sym c.is_named.ensures ∙ c.if-is_named.false)
