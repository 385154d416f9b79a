use Rattle.std.proofs.Common.{◌≡◌, ◌++◌, length}
use Rattle.share_pending.specs.Reading.{text_of}
use Rattle.share_pending.proofs.reading.entries_of.Given as goal

abbrev pub invariant-loop-number : goal.invariant-loop-number
invariant-loop-number l = record {
  text : l.bytes ≡ text_of l.entries.items ++ l.rest;
  count : length l.entries.items ≡ l.number;
}
