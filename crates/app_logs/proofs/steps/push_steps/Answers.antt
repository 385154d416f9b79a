use Rattle.app_logs.specs.Steps.{step_line}
use Rattle.app_logs.proofs.Lines.{line_more}
use Rattle.app_logs.proofs.steps.push_steps.Goals as goal

pub loop-entry-preserved : goal.loop-entry-preserved
loop-entry-preserved c =
    line_more step_line c.args.entries.now c.loop-entry.entry-index c.entry-item.result c.args.out.now.items c.loop-entry.out.items _
    c.loop-entry-test.true c.entry-item.is c.loop-entry.invariant c.in_ok-push_step.ensures
