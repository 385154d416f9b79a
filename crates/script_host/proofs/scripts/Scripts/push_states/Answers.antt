use Rattle.std.proofs.Common.{arith, below_more}
use Rattle.std.proofs.lemmas.Grind.{common_steps}
use Rattle.script_host.specs.Restoring.{IsStateOf}
use Rattle.script_host.proofs.PairLemmas.{PairAt-map}
use Rattle.script_host.proofs.scripts.Scripts.push_states.Goals as goal

pub loop-slot-preserved : goal.loop-slot-preserved
loop-slot-preserved g c =
    let slots = c.deref-slot-items.result.now in
    record {
      pushed = grind (arith, common_steps);
      fit = below_more _ _ c.loop-slot.invariant.fit
          (PairAt-map IsStateOf (λ r. r.state) slots slots c.loop-slot.slot-index c.slot-item.result c.slot-item.result
          (omega arith) (omega arith) c.slot-item.is c.slot-item.is c.state.ensures.valid);
    }
