use Rattle.x3d_values.proofs.Joined.{grows, perhaps}
use Rattle.cascade_trace.proofs.labels.push_source.Goals as goal

pub returns-in_err-push-clause-kept : goal.returns-in_err-push-clause-kept
returns-in_err-push-clause-kept c = grows _ c.in_ok-label.ensures.ok (perhaps _ _ c.push.ensures.items)

pub returns-clause-kept : goal.returns-clause-kept
returns-clause-kept c =
    grows _ c.in_ok-label.ensures.ok (grows _ c.in_ok-push.ensures.items (perhaps _ _ c.extend_from_slice.ensures.items))
