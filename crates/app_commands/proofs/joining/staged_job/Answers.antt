use Rattle.std.proofs.Common.{rules, ◌≡◌}
use Rattle.std.specs.Prelude.{Ok}
use Rattle.app_jobs.specs.Job.{Lined}
use Rattle.app_commands.specs.Fits.{fits}
use Rattle.app_commands.proofs.JointJobs.{is_staged}
use Rattle.app_commands.proofs.Staging.{is_stage}
use Rattle.app_commands.proofs.joining.staged_job.Goals as goal

pub returns-clause-ok : goal.returns-clause-ok
returns-clause-ok c =
    let lined : Lined = record { inputs = c.in_ok-steps.steps.inputs; scene = c.in_ok-steps.steps.scene.now } in
    let fit : fits c.args.order.now lined.inputs ≡ Ok tt = search rules in
    rw c.scene_mark.ensures (is_staged c.args.order.now c.args.viewers c.args.bytes.now lined c.in_ok-opened.opened c.in_ok-stages.stages.items
    c.in_ok-steps.ensures.exact c.in_ok-opened.ensures fit c.in_ok-first.ensures.taken c.in_ok-stages.ensures.stages)

pub with_others-requires-clause-first : goal.with_others-requires-clause-first
with_others-requires-clause-first c =
    is_stage c.in_ok-steps.steps.scene.now c.in_ok-opened.opened c.in_ok-first.first c.in_ok-opened.ensures c.in_ok-first.ensures.taken c.in_ok-first.ensures.ok
