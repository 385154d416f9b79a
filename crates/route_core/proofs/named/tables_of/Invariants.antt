use Rattle.route_core.specs.Named.{AreTables}
use Rattle.route_core.proofs.named.tables_of.Given as goal

abbrev pub invariant-loop-node : goal.invariant-loop-node
invariant-loop-node l = AreTables l.scene l.tables
