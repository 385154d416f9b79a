use Rattle.x3d_values.proofs.Joined.{appended, grows, onward, perhaps}
use Rattle.classic_tree.proofs.header.push_meta.Goals as goal

pub returns-in_err-show-clause-kept : goal.returns-in_err-show-clause-kept
returns-in_err-show-clause-kept c = grows _ c.in_ok-extend_from_slice.ensures.items c.in_err-show.ensures.kept

pub returns-in_err-push-clause-kept : goal.returns-in_err-push-clause-kept
returns-in_err-push-clause-kept c = grows _ c.in_ok-extend_from_slice.ensures.items (onward c.in_ok-show.ensures.kept (perhaps _ _ c.push.ensures.items))

pub returns-in_err-show-2-clause-kept : goal.returns-in_err-show-2-clause-kept
returns-in_err-show-2-clause-kept c = grows _ c.in_ok-extend_from_slice.ensures.items (onward c.in_ok-show.ensures.kept (grows _ c.in_ok-push.ensures.items c.in_err-show-2.ensures.kept))

pub returns-in_err-push-2-clause-kept : goal.returns-in_err-push-2-clause-kept
returns-in_err-push-2-clause-kept c = grows _ c.in_ok-extend_from_slice.ensures.items (onward c.in_ok-show.ensures.kept (grows _ c.in_ok-push.ensures.items (onward c.in_ok-show-2.ensures.kept (perhaps _ _ c.push-2.ensures.items))))

pub returns-clause-kept : goal.returns-clause-kept
returns-clause-kept c = grows _ c.in_ok-extend_from_slice.ensures.items (onward c.in_ok-show.ensures.kept (grows _ c.in_ok-push.ensures.items (onward c.in_ok-show-2.ensures.kept (appended _ c.in_ok-push-2.ensures.items))))
