use Rattle.std.proofs.Common.{◌≡◌, drop}
use Rattle.share_core.proofs.inputs.drop_front.Given as goal

abbrev pub invariant-loop-gone : goal.invariant-loop-gone
invariant-loop-gone l = l.list.items ≡ drop l._gone l.fn.list.items
