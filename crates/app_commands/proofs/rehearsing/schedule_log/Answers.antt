use Rattle.app_commands.proofs.Logging.{is_schedule_log}
use Rattle.app_commands.proofs.rehearsing.schedule_log.Goals as goal

pub returns-clause-done : goal.returns-clause-done
returns-clause-done c =
    is_schedule_log c.args.viewers c.args.schedule.now c.as_slice-text.result.now c.scene_mark.result c.as_slice.result.now c.in_ok-stages.stages.items
    c.in_ok-log_of.field-0.items c.as_slice-text.ensures c.scene_mark.ensures c.as_slice.ensures c.in_ok-stages.ensures.stages c.in_ok-log_of.ensures
