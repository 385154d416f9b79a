use Rattle.std.proofs.Common.{◌≡◌, ◌≤◌, length, false}
use Rattle.std.specs.Prelude.{All}
use Rattle.cascade_trace.proofs.places.push_unset.Given as goal

-- none of the bits is set
abbrev pub invariant-loop : goal.invariant-loop
invariant-loop l = record {
  unset : All (λ bit. bit ≡ false) l.bits.items;
  longer : length l.fn.bits.items ≤ length l.bits.items;
}
