use Rattle.x3d_values.proofs.Joined.{appended, grows, perhaps}
use Rattle.cascade_trace.proofs.texts.push_end.Goals as goal

pub returns-in_err-push-clause-kept : goal.returns-in_err-push-clause-kept
returns-in_err-push-clause-kept c = grows _ c.in_ok-show_value.ensures.ok (perhaps _ _ c.push.ensures.items)

pub returns-clause-kept : goal.returns-clause-kept
returns-clause-kept c = grows _ c.in_ok-show_value.ensures.ok (appended _ c.in_ok-push.ensures.items)
