use Rattle.std.proofs.Common.{arith, rules, ◌≡◌, Err}
use Rattle.app_part.proofs.Mended.{all_tried_made, bare_refused, ended_made, mended_good, mended_more, stuck}
use Rattle.app_part.proofs.part.mended.Goals as goal

pub loop-tries-preserved : goal.loop-tries-preserved
loop-tries-preserved c = (
  mended_more c.args.document.now c.loop-tries.tries c.loop-tries.mends _ c.as_slice.result.now c.in-Err.refused.fault c.in-Err.refused.blames c.in_ok-more-in-Err.more
      c.as_slice.ensures c.loop-tries.invariant.0 c.in-Err.ensures.refused c.in_ok-more-in-Err.ensures.left c.if-not-more.false,
  omega (arith, c.loop-tries-test.true),
)

pub loop-tries-smaller : goal.loop-tries-smaller
loop-tries-smaller c = omega (arith, c.loop-tries-test.true)

pub returns-in-Ok-clause-made : goal.returns-in-Ok-clause-made
returns-in-Ok-clause-made c =
    mended_good c.args.document.now c.loop-tries.tries c.loop-tries.mends c.as_slice.result.now c.in-Ok.made c.as_slice.ensures c.loop-tries.invariant.0 c.in-Ok.ensures.made

pub returns-then-not-more-clause-made : goal.returns-then-not-more-clause-made
returns-then-not-more-clause-made c =
    ended_made c.args.document.now c.loop-tries.tries c.loop-tries.mends c.leave_out.new.mends c.bare.new.mends c.as_slice.result.now c.in-Err.refused.fault c.in-Err.refused.blames c.in_ok-more-in-Err.more c.bare.result
    c.as_slice.ensures c.loop-tries.invariant.0 c.in-Err.ensures.refused c.in_ok-more-in-Err.ensures.left c.if-not-more.true c.bare.ensures.left c.bare.ensures.made

pub returns-then-not-more-clause-refused : goal.returns-then-not-more-clause-refused
returns-then-not-more-clause-refused c = bare_refused c.args.document.now c.bare.result c.bare.ensures.refused

pub returns-clause-made : goal.returns-clause-made
returns-clause-made c =
    all_tried_made c.args.document.now c.loop-tries.tries c.loop-tries.mends c.bare-2.new.mends c.bare-2.result c.loop-tries.invariant.0
    (omega (arith, c.loop-tries.invariant.1, c.loop-tries-test.false)) c.bare-2.ensures.left c.bare-2.ensures.made

pub returns-clause-refused : goal.returns-clause-refused
returns-clause-refused c = bare_refused c.args.document.now c.bare-2.result c.bare-2.ensures.refused

pub returns-in_err-more-in-Err-clause-refused : goal.returns-in_err-more-in-Err-clause-refused
returns-in_err-more-in-Err-clause-refused c =
    let failed : c.from_residual.result ≡ Err c.in_err-more-in-Err.field-0.0 = search rules in
    rw failed (stuck c.args.document.now c.loop-tries.tries c.loop-tries.mends c.as_slice.result.now c.in-Err.refused.fault c.in_err-more-in-Err.field-0.0 c.in-Err.refused.blames
    c.as_slice.ensures c.loop-tries.invariant.0 c.in-Err.ensures.refused c.in_err-more-in-Err.ensures.refused)
