use Rattle.std.proofs.Common.{◌≡◌, ◌-◌, length}
use Rattle.byte_codec.specs.Codec.{many_at}
use Rattle.share_entries.specs.Base.{seat_codec}
use Rattle.share_entries.proofs.Loops.{after_those}
use Rattle.share_entries.proofs.base.seats_of.Given as goal

-- what was read so far, and what is still to be read, are all
abbrev pub invariant-loop : goal.invariant-loop
invariant-loop l = record {
  read : after_those l.kept.items (many_at seat_codec (l.count - l.counter) l.rest) ≡ many_at seat_codec l.count l.bytes;
  len : length l.kept.items ≡ l.counter;
}
