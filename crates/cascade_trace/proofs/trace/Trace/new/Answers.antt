use Rattle.std.proofs.Common.{refl}
use Rattle.cascade_trace.specs.Since.{risen}
use Rattle.cascade_trace.specs.Trace.{lines_of}
use Rattle.cascade_trace.proofs.trace.Trace.new.Goals as goal

pub invariant_of-result : goal.invariant_of-result
unfolding lines_of risen
invariant_of-result c = (
  λ es vs. rw (c.new.ensures.items, c.new-2.ensures.items) refl,
  rw (c.new.ensures.items, c.new-2.ensures.items) refl,
  λ is. rw c.new.ensures.items refl,
)

pub returns : goal.returns
unfolding lines_of
returns c = rw c.new.ensures.items refl
