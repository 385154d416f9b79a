use Rattle.std.proofs.Common.{◌≡◌, ◌-◌}
use Rattle.byte_codec.specs.Codec.{many_at}
use Rattle.snapshot_codec.specs.Values.{within}
use Rattle.snapshot_codec.specs.Reads.{behind}
use Rattle.snapshot_codec.proofs.coded.many_within.Given as goal

abbrev pub invariant-loop : goal.invariant-loop
invariant-loop l = behind l.items (many_at (within l.limit) (l.count - l.counter) l.rest) ≡ many_at (within l.limit) l.count l.bytes
