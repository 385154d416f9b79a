use Rattle.std.proofs.Common.{◌≡◌, length, false}
use Rattle.std.specs.Prelude.{All}
use Rattle.cascade_trace.specs.Bits.{IsRising}
use Rattle.cascade_trace.proofs.places.push_starts.Given as goal

-- no start is above one behind it, and none of the bits is set
abbrev pub invariant-loop-node : goal.invariant-loop-node
invariant-loop-node l = record {
  rising : IsRising l.starts.items (length l.bits.items);
  unset : All (λ bit. bit ≡ false) l.bits.items;
}
