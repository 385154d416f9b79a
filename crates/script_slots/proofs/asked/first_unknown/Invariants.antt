use Rattle.script_slots.specs.Asked.{KnownBelow}
use Rattle.script_slots.proofs.asked.first_unknown.Given as goal

abbrev pub invariant-loop-k : goal.invariant-loop-k
invariant-loop-k l = KnownBelow l.specs l.k
