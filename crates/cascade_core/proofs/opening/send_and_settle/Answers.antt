use Rattle.std.proofs.Common.{◌∙◌, ap}
use Rattle.cascade_core.specs.Course.{CourseView, wiring_at, seen}
use Rattle.cascade_core.proofs.Openings.{sent_unsettled}
use Rattle.cascade_core.proofs.Resting.{scripts_then}
use Rattle.cascade_core.proofs.opening.send_and_settle.Goals as goal

pub settle-requires-clause-fresh : goal.settle-requires-clause-fresh
settle-requires-clause-fresh g c =
    ap (λ (d : CourseView). d.settling.settled) c.in_ok-send_all.ensures.course
    ∙ sent_unsettled (wiring_at c.args.routed.now) (seen c.args.course.now) c.args.sendings.items c.requires.fresh

pub returns-in_err-settle-clause-scripts : goal.returns-in_err-settle-clause-scripts
returns-in_err-settle-clause-scripts g c = scripts_then c.send_all.ensures.scripts c.settle.ensures.scripts

pub returns-clause-scripts : goal.returns-clause-scripts
returns-clause-scripts g c = scripts_then c.send_all.ensures.scripts c.settle.ensures.scripts
