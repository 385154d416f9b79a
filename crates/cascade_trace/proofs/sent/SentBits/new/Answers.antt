use Rattle.cascade_trace.proofs.Marks.{unset-marked}
use Rattle.cascade_trace.proofs.sent.SentBits.new.Goals as goal

pub invariant_of-result : goal.invariant_of-result
invariant_of-result c = rw c.new.ensures.items (unset-marked _ _ c.in_ok-push_starts.ensures.rising c.in_ok-push_starts.ensures.unset)
