use Rattle.x3d_values.proofs.Joined.{appended, grows, perhaps}
use Rattle.cascade_trace.proofs.texts.push_stamp.Goals as goal

pub returns-in_err-push-clause-kept : goal.returns-in_err-push-clause-kept
returns-in_err-push-clause-kept c = grows _ c.in_ok-extend_from_slice.ensures.items (perhaps _ _ c.push.ensures.items)

pub returns-in_err-push_number-clause-kept : goal.returns-in_err-push_number-clause-kept
returns-in_err-push_number-clause-kept c =
    grows _ c.in_ok-extend_from_slice.ensures.items (grows _ c.in_ok-push.ensures.items c.push_number.ensures.kept)

pub returns-in_err-push-2-clause-kept : goal.returns-in_err-push-2-clause-kept
returns-in_err-push-2-clause-kept c =
    grows _ c.in_ok-extend_from_slice.ensures.items
    (grows _ c.in_ok-push.ensures.items (grows _ c.in_ok-push_number.ensures.ok (perhaps _ _ c.push-2.ensures.items)))

pub returns-clause-kept : goal.returns-clause-kept
returns-clause-kept c =
    grows _ c.in_ok-extend_from_slice.ensures.items
    (grows _ c.in_ok-push.ensures.items (grows _ c.in_ok-push_number.ensures.ok (appended _ c.in_ok-push-2.ensures.items)))
