use Rattle.std.proofs.Common.{◌∙◌, ap, arith, take_all}
use Rattle.scene_text.specs.Places.{times}
use Rattle.scene_text.proofs.Ranges.{times_more}
use Rattle.scene_text.proofs.places.counts.Goals as goal

pub loop-node-preserved : goal.loop-node-preserved
loop-node-preserved c = record {
  all = c.count_one.ensures.all ∙ c.loop-node.invariant.all;
  small = λ n.
      let most = c.count_one.ensures.most n in
      let before = c.loop-node.invariant.small n in
      omega arith;
  each = λ n within.
      let more = times_more n c.args.nodes.now c.loop-node.node-index c.loop-node-test.true in
      let one = c.count_one.ensures.each n (omega (arith, c.loop-node.invariant.all)) in
      let before = c.loop-node.invariant.each n within in
      cc;
}

pub returns-clause-each : goal.returns-clause-each
returns-clause-each c =
    λ n within. c.loop-node.invariant.each n within ∙ ap (times n) (take_all c.loop-node.node-index c.args.nodes.now c.loop-node-test.false)
