use Rattle.x3d_values.proofs.Joined.{grows, onward}
use Rattle.cascade_trace.proofs.texts.push_line.Goals as goal

pub returns-in_err-push-clause-kept : goal.returns-in_err-push-clause-kept
returns-in_err-push-clause-kept c = grows _ c.in_ok-extend_from_slice.ensures.items c.push.ensures.kept

pub returns-clause-kept : goal.returns-clause-kept
returns-clause-kept c =
    grows _ c.in_ok-extend_from_slice.ensures.items (onward c.push.ensures.kept c.push_end.ensures.kept)
