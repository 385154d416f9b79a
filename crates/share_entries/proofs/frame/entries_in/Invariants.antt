use Rattle.std.proofs.Common.{◌≡◌, ◌-◌}
use Rattle.byte_codec.specs.Codec.{many_at}
use Rattle.share_entries.specs.Entry.{entry_codec}
use Rattle.share_entries.proofs.Loops.{after_those}
use Rattle.share_entries.proofs.frame.entries_in.Given as goal

-- the entries so far, and those that are still to be read, are all
abbrev pub invariant-loop : goal.invariant-loop
invariant-loop l =
    after_those l.entries.items (many_at entry_codec (l.count - l.counter) l.rest) ≡ many_at entry_codec l.count l.bytes
