-- The statements of a document, which all go if nothing else makes a scene of its part.
use Rattle.std.specs.Prelude.{ℕ, List, map}
use Rattle.classic_tree.specs.declared.tree.BodyItem.TheOpen.{NodeText-F, Statement-F, ProtoText-F}
use Rattle.classic_tree.specs.declared.tree.Document.{Document}
use Rattle.classic_tree.specs.declared.tree.NodeText.{NodeText, fold-NodeText}
use Rattle.classic_tree.specs.declared.tree.Statement.{Statement, fold-Statement}
use Rattle.proto_flat.specs.declared.fault.ExpandFaultKind.TheVariants.{TooLarge}
use Rattle.scene_faults.specs.declared.blame.Blame.{Blame}
use Rattle.scene_faults.specs.declared.blame.Reason.TheVariants.{Expand}

-- ---- the line on which each begins

unfoldable pub node_step : {I N S P : Type 0} → NodeText-F I N S P → ℕ
node_step (NodeText-F.Use line name) = line
node_step (NodeText-F.Full line name word items) = line

unfoldable pub statement_step : {I S : Type 0} → Statement-F I ℕ S ℕ → ℕ
statement_step (Statement-F.Node line) = line
statement_step (Statement-F.Statement::Route route) = route.line
statement_step (Statement-F.Statement::Proto line) = line

unfoldable pub proto_step : {I N S P : Type 0} → ProtoText-F I N S P → ℕ
proto_step p = p.line

abbrev pub node_line : NodeText → ℕ
node_line = fold-NodeText (Unit {0}) ℕ ℕ ℕ (λ _. tt) node_step statement_step proto_step

abbrev pub statement_line : Statement → ℕ
statement_line = fold-Statement (Unit {0}) ℕ ℕ ℕ (λ _. tt) node_step statement_step proto_step

-- ---- all of them

abbrev pub of_statement : Statement → Blame
of_statement s = record { line = statement_line s; reason = Expand TooLarge }

abbrev pub all_statements : Document → List Blame
all_statements d = map of_statement d.statements
