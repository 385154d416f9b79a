use Rattle.std.proofs.Common.{◌∙◌, ap}
use Rattle.script_slots.specs.Settling.{DueScriptsView}
use Rattle.script_host.specs.Behaviour.{Settle}
use Rattle.cascade_core.specs.Course.{wiring_at, seen}
use Rattle.cascade_core.specs.Settles.{settle_one}
use Rattle.cascade_core.proofs.SoundLemmas.{has_scripts_still}
use Rattle.cascade_core.proofs.TaskLists.{act-ready}
use Rattle.cascade_core.proofs.settle.settle_one.Goals as goal

pub send_replies-requires-clause-ready : goal.send_replies-requires-clause-ready
send_replies-requires-clause-ready g c =
    rw (c.node.ensures, c.settle.ensures.replies, c.ports.ensures)
    (act-ready (wiring_at c.args.routed.now) c.args.course.now.scripts c.requires.rest.has_scripts.sound c.args.k Settle)

pub send_replies-requires-clause-has_scripts : goal.send_replies-requires-clause-has_scripts
send_replies-requires-clause-has_scripts g c =
    has_scripts_still (wiring_at c.args.routed.now) (seen c.args.course.now) _ c.settle.ensures.kinds (ap (λ (s : DueScriptsView). s.count) c.in_ok-settle.ensures.ok) c.requires.rest.has_scripts

pub returns-clause-course : goal.returns-clause-course
unfolding settle_one
returns-clause-course g c =
    rw (c.node.ensures, c.settle.ensures.replies, c.settle.ensures.scripts, c.in_ok-settle.ensures.ok, c.ports.ensures)
    at c.send_replies.ensures.course

pub returns-clause-scripts : goal.returns-clause-scripts
returns-clause-scripts g c = record {
  kinds = c.send_replies.ensures.scripts.kinds ∙ c.settle.ensures.kinds;
  count = c.send_replies.ensures.scripts.count ∙ ap (λ (s : DueScriptsView). s.count) c.in_ok-settle.ensures.ok;
}
