use Rattle.std.proofs.Common.{◌≡◌, take}
use Rattle.share_pending.specs.Reading.{text_of}
use Rattle.share_pending.proofs.reading.bytes_of_all.Given as goal

abbrev pub invariant-loop-entry : goal.invariant-loop-entry
invariant-loop-entry l = l.bytes.items ≡ text_of (take l.entry-index l.entries)
