use Rattle.std.proofs.Common.{◌∙◌, ap, refl, sym}
use Rattle.cascade_core.specs.Apply.{Started}
use Rattle.cascade_core.specs.Course.{wiring_at}
use Rattle.cascade_core.proofs.Openings.{started_first, started_more}
use Rattle.cascade_core.proofs.Steps.{below_still, range_ended, sound_still}
use Rattle.cascade_core.proofs.opening.initialize_all.Goals as goal

pub loop-k-init : goal.loop-k-init
loop-k-init g c = record {
  done = started_first (wiring_at c.args.routed.now) c.args.scripts.now c.in_ok-sendings.sendings.items c.len-count.result c.in_ok-sendings.ensures.items c.len-count.ensures;
  kinds = refl;
}

pub loop-k-preserved : goal.loop-k-preserved
loop-k-preserved g c = record {
  done =
      started_more (wiring_at c.args.routed.now) _ c.loop-k.scripts _ c.loop-k.sendings.items _ c.initialize_one.result c.loop-k.k c.len-count.result c.loop-k-test.true
      c.initialize_one.ensures.scripts c.initialize_one.ensures.sending c.in_ok-push.ensures.items c.loop-k.invariant.done;
  kinds = c.initialize_one.ensures.kinds ∙ c.loop-k.invariant.kinds;
}

pub initialize_one-requires-clause-there : goal.initialize_one-requires-clause-there
initialize_one-requires-clause-there g c =
    below_still c.args.scripts.now c.loop-k.scripts c.loop-k.k c.len-count.result c.loop-k-test.true c.len-count.ensures c.loop-k.invariant.kinds

pub initialize_one-requires-clause-sound : goal.initialize_one-requires-clause-sound
initialize_one-requires-clause-sound g c =
    sound_still (wiring_at c.args.routed.now) c.args.scripts.now c.loop-k.scripts c.loop-k.invariant.kinds c.requires.sound

pub returns-in_err-push-clause-kinds : goal.returns-in_err-push-clause-kinds
returns-in_err-push-clause-kinds g c = c.initialize_one.ensures.kinds ∙ c.loop-k.invariant.kinds

pub returns-clause-scripts : goal.returns-clause-scripts
returns-clause-scripts g c =
    ap (λ (s : Started). s.scripts) (sym (range_ended _ _ c.loop-k.k c.len-count.result c.loop-k-test.false) ∙ c.loop-k.invariant.done)

pub returns-clause-sendings : goal.returns-clause-sendings
returns-clause-sendings g c =
    ap (λ (s : Started). s.sendings) (sym (range_ended _ _ c.loop-k.k c.len-count.result c.loop-k-test.false) ∙ c.loop-k.invariant.done)
