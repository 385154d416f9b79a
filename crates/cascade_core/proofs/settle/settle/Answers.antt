use Rattle.std.proofs.Common.{◌∙◌, ◌<◌, sym, subst, arith}
use Rattle.cascade_core.specs.Course.{CourseView, wiring_at, seen}
use Rattle.cascade_core.proofs.SettleLemmas.{due-below, due_left, due_left-most, one-due, one-fewer, settle-end, settle-step}
use Rattle.cascade_core.proofs.SoundLemmas.{has_scripts-counted}
use Rattle.cascade_core.proofs.Resting.{scripts_then}
use Rattle.cascade_core.proofs.settle.settle.Goals as goal

pub settle_one-requires-clause-there : goal.settle_one-requires-clause-there
settle_one-requires-clause-there g c =
    omega (
      arith,
      due-below (wiring_at c.args.routed.now) (seen c.loop-k.course) c.in-Some.k (sym c.in-Some.ensures),
      has_scripts-counted (wiring_at c.args.routed.now) (seen c.loop-k.course) c.loop-k.invariant.rest.has_scripts,
    )

pub settle_one-requires-clause-due : goal.settle_one-requires-clause-due
settle_one-requires-clause-due g c = (one-due (wiring_at c.args.routed.now) (seen c.loop-k.course) c.in-Some.k (sym c.in-Some.ensures)).0

pub loop-k-smaller : goal.loop-k-smaller
loop-k-smaller g c =
    subst (λ (d : CourseView). due_left (wiring_at c.args.routed.now) d < due_left (wiring_at c.args.routed.now) (seen c.loop-k.course))
    (sym c.in_ok-settle_one.ensures.course)
    (one-fewer (wiring_at c.args.routed.now) (seen c.loop-k.course) c.in-Some.k (sym c.in-Some.ensures))

pub loop-k-preserved : goal.loop-k-preserved
loop-k-preserved g c = record {
  rest = c.in_ok-settle_one.ensures.rest;
  scripts = scripts_then c.loop-k.invariant.scripts c.settle_one.ensures.scripts;
  done =
      rw c.in_ok-settle_one.ensures.course
      (sym (settle-step (wiring_at c.args.routed.now) c.args.course.now.settling.count (seen c.loop-k.course) c.in-Some.k (sym c.in-Some.ensures)
      (omega (arith, due_left-most (wiring_at c.args.routed.now) (seen c.loop-k.course), c.loop-k.invariant.scripts.count)))
      ∙ c.loop-k.invariant.done);
}

pub returns-clause-course : goal.returns-clause-course
returns-clause-course g c =
    sym (settle-end (wiring_at c.args.routed.now) c.args.course.now.settling.count (seen c.loop-k.course) (sym c.in_default.ensures))
    ∙ c.loop-k.invariant.done

pub returns-in_err-settle_one-clause-scripts : goal.returns-in_err-settle_one-clause-scripts
returns-in_err-settle_one-clause-scripts g c = scripts_then c.loop-k.invariant.scripts c.settle_one.ensures.scripts
