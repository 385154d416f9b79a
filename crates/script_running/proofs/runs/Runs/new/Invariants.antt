use Rattle.std.proofs.Common.{take}
use Rattle.script_running.specs.Table.{IsTable}
use Rattle.script_running.proofs.runs.Runs.new.Given as goal

-- the scripts so far stand in the table
abbrev pub invariant-loop-k : goal.invariant-loop-k
invariant-loop-k l = IsTable l.numbers.items (take l.k l.run-items)
