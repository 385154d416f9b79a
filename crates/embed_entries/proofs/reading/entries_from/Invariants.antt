use Rattle.std.proofs.Common.{◌≡◌, ◌++◌, length}
use Rattle.embed_entries.specs.Appends.{lines_from}
use Rattle.embed_entries.proofs.reading.entries_from.Given as goal

abbrev pub invariant-loop-number : goal.invariant-loop-number
invariant-loop-number l = record {
  text : l.bytes ≡ lines_from l.first l.entries.items ++ l.rest;
  count : length l.entries.items ≡ l.number;
}
