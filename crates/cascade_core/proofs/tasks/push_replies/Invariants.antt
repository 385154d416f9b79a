use Rattle.std.proofs.Common.{◌≡◌, ◌++◌, map, reverse}
use Rattle.arrayvec.specs.ArrayVec.{array_vec_len}
use Rattle.cascade_core.specs.Replies.{send_by}
use Rattle.cascade_core.proofs.tasks.push_replies.Given as goal

-- the replies that are left come on top of those that are there
abbrev pub invariant-loop-reply : goal.invariant-loop-reply
invariant-loop-reply l =
    l.tasks.items ++ map (send_by l.node) (reverse l.replies.items) ≡ l.fn.tasks.items ++ map (send_by l.node) (reverse l.fn.replies.items)

abbrev pub decreases-loop-reply : goal.decreases-loop-reply
decreases-loop-reply l = array_vec_len l.replies
