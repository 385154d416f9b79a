use Rattle.std.proofs.Common.{◌≡◌, ◌+◌, ◌++◌, take}
use Rattle.embed_entries.specs.Appends.{lines_from}
use Rattle.embed_entries.proofs.writing.push_lines.Given as goal

-- the lines of the entries so far
abbrev pub invariant-loop-entry : goal.invariant-loop-entry
invariant-loop-entry l = record {
  text : l.out.items ≡ l.fn.out.items ++ lines_from l.first (take l.entry-index l.entries);
  number : l.number ≡ l.first + l.entry-index;
}
