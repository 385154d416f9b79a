use Rattle.std.proofs.Common.{◌∙◌, ap, length}
use Rattle.app_commands.proofs.JointJobs.{is_joint}
use Rattle.app_commands.proofs.Staging.{viewer_count}
use Rattle.app_commands.proofs.joining.joint_job.Goals as goal

pub returns-clause-ok : goal.returns-clause-ok
returns-clause-ok c =
    let job = c.in_ok-job.job in
    let made = c.in_ok-with_viewers.field-0 in
    is_joint c.args.order.now c.args.viewers c.args.bytes.now job.inputs job.mark job.stages.items made.inputs made.mark made.viewers.items
    c.in_ok-job.ensures.ok c.in_ok-with_viewers.ensures.inputs c.in_ok-with_viewers.ensures.mark c.in_ok-with_viewers.ensures.viewers

pub returns-clause-count : goal.returns-clause-count
returns-clause-count c =
    let job = c.in_ok-job.job in
    ap length c.in_ok-with_viewers.ensures.viewers ∙ viewer_count job.mark 0 job.stages.items ∙ c.in_ok-job.ensures.count
