use Rattle.std.proofs.Common.{take}
use Rattle.classic_part.specs.Index.{IsOf}
use Rattle.classic_part.proofs.index.tables_of.Given as goal

abbrev pub invariant-loop-note : goal.invariant-loop-note
invariant-loop-note l = IsOf l.tables (take l.note-index l.notes)
