use Rattle.std.proofs.Common.{rules, ◌≡◌, Err, Some, arith, below_more}
use Rattle.script_host.specs.Restoring.{IsStateOf}
use Rattle.script_host.specs.States.{state_fault}
use Rattle.script_host.proofs.PairLemmas.{PairAt-here}
use Rattle.script_host.proofs.restore.all_fit.Goals as goal

pub loop-k-preserved : goal.loop-k-preserved
loop-k-preserved g c =
    below_more _ _ c.loop-k.invariant
    (PairAt-here IsStateOf c.args.slots.now c.args.states.now c.loop-k.k c.index-slots-k.result c.index-states-k.result c.loop-k-test.true (omega (arith, c.loop-k-test.true, c.requires))
    c.index-slots-k.is c.index-states-k.is (rw c.as_slice.ensures at c.in_ok-fits.ensures.ok))

pub returns-in_err-fits : goal.returns-in_err-fits
returns-in_err-fits g c =
    let failed : c.from_residual.result ≡ Err c.in_err-fits.field-0.0 = search rules in
    rw failed
    (record {
      ok = tt;
      err = record {
        count = c.requires;
        at = c.loop-k.k;
        before = c.loop-k.invariant;
        here = PairAt-here (λ r state. state_fault r.kind state ≡ Some c.in_err-fits.field-0.0) c.args.slots.now c.args.states.now c.loop-k.k c.index-slots-k.result c.index-states-k.result
            c.loop-k-test.true (omega (arith, c.loop-k-test.true, c.requires)) c.index-slots-k.is c.index-states-k.is (rw c.as_slice.ensures at c.in_err-fits.ensures.err);
      };
    })
