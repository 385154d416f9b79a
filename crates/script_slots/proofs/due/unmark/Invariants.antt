use Rattle.std.proofs.Common.{drop}
use Rattle.script_slots.proofs.Tables.{FlagsOnly}
use Rattle.script_slots.proofs.due.unmark.Given as goal

-- only the scripts that are left are flagged
abbrev pub invariant-loop-script : goal.invariant-loop-script
invariant-loop-script l = FlagsOnly l.flags (drop l.script-index l.scripts)
