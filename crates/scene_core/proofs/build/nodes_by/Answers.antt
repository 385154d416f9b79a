use Rattle.std.proofs.Common.{rules, ◌≡◌, Err}
use Rattle.scene_core.specs.Building.{nodes_by}
use Rattle.scene_core.specs.Labels.{known_of, known_alone}
use Rattle.scene_core.proofs.BehindLemmas.{nodes-next, nodes-stop}
use Rattle.scene_core.proofs.build.nodes_by.Goals as goal

pub loop-n-preserved : goal.loop-n-preserved
loop-n-preserved c =
    nodes-next c.args.nodes.now c.args.numbering.now (λ name. known_alone (known_of c.args.marks.now name)) c.as_slice.result.now c.as_slice-order.result.now c.as_slice.ensures
    c.as_slice-order.ensures c.loop-n.n-index c.loop-n.made _ c.loop-n-test.true c.loop-n.invariant c.in_ok-made.made c.in_ok-made.ensures

pub returns-in_err-made : goal.returns-in_err-made
unfolding nodes_by
returns-in_err-made c =
    let failed : c.from_residual-in_err-made.result ≡ Err c.in_err-made.field-0.0 = search rules in
    rw failed
    (nodes-stop c.args.nodes.now c.args.numbering.now (λ name. known_alone (known_of c.args.marks.now name)) c.as_slice.result.now c.as_slice-order.result.now c.as_slice.ensures
    c.as_slice-order.ensures c.loop-n.n-index c.loop-n.made _ c.loop-n-test.true c.loop-n.invariant c.in_err-made.field-0.0 c.in_err-made.ensures)
