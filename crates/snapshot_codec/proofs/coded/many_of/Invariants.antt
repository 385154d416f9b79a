use Rattle.std.proofs.Common.{◌≡◌, ◌-◌}
use Rattle.byte_codec.specs.Codec.{many_at}
use Rattle.snapshot_codec.specs.Reads.{behind}
use Rattle.snapshot_codec.proofs.coded.many_of.Given as goal

abbrev pub invariant-loop : goal.invariant-loop
invariant-loop g l = behind l.items (many_at g.T.Coded.codec (l.count - l.counter) l.rest) ≡ many_at g.T.Coded.codec l.count l.bytes
