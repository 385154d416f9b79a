use Rattle.std.proofs.Common.{◌≡◌, ◌++◌, map, take}
use Rattle.app_part.specs.Statements.{of_statement}
use Rattle.app_part.proofs.bare.push_statements.Given as goal

abbrev pub invariant-loop-statement : goal.invariant-loop-statement
invariant-loop-statement l = l.out ≡ l.fn.out ++ map of_statement (take l.statement-index l.statements)
