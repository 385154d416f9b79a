use Rattle.std.proofs.Common.{◌≡◌, ◌-◌, length}
use Rattle.std.specs.Int.{w32}
use Rattle.byte_codec.specs.Codec.{many_at, number}
use Rattle.snapshot_codec.specs.Reads.{behind}
use Rattle.snapshot_codec.proofs.plane.positions_of.Given as goal

-- the positions so far, and those that are left
abbrev pub invariant-loop : goal.invariant-loop
invariant-loop l = record {
  read : behind l.positions.items (many_at (number w32) (l.count - l.counter) l.rest) ≡ many_at (number w32) l.count l.bytes;
  len : length l.positions.items ≡ l.counter;
}
