-- The line on which a statement begins, by what it is.
use Rattle.std.proofs.Common.{◌≡◌, ℕ, List, Option, ap, sym, ◌∙◌}
use Rattle.std.proofs.lemmas.Grind.{common_steps}
use Rattle.classic_tree.specs.declared.tree.BodyItem.{BodyItem}
use Rattle.classic_tree.specs.declared.tree.BodyItem.TheOpen.{NodeText-F, Statement-F}
use Rattle.classic_tree.specs.declared.tree.NodeText.{NodeText, fold-roll-NodeText}
use Rattle.classic_tree.specs.declared.tree.NodeText.TheVariants as node
use Rattle.classic_tree.specs.declared.tree.ProtoText.{ProtoText, out-ProtoText, fold_out-ProtoText}
use Rattle.classic_tree.specs.declared.tree.RouteText.{RouteText}
use Rattle.classic_tree.specs.declared.tree.Statement.{Statement, fold-roll-Statement}
use Rattle.classic_tree.specs.declared.tree.Statement.TheVariants as statement
use Rattle.app_part.specs.Statements.{node_step, statement_step, proto_step, node_line, statement_line}

pub node_line-use : (line : ℕ) (name : List ℕ) → node_line (node.Use line name) ≡ line
unfolding node_step
node_line-use line name = ap node_line (sym (node.rolls-Use line name))
    ∙ fold-roll-NodeText (Unit {0}) ℕ ℕ ℕ (λ _. tt) node_step statement_step proto_step (NodeText-F.Use line name)

pub node_line-full : (line : ℕ) (name : Option (List ℕ)) (word : List ℕ) (items : List BodyItem) → node_line (node.Full line name word items) ≡ line
unfolding node_step
node_line-full line name word items = ap node_line (sym (node.rolls-Full line name word items))
    ∙ fold-roll-NodeText (Unit {0}) ℕ ℕ ℕ (λ _. tt) node_step statement_step proto_step (NodeText-F.Full line name word items)

pub statement_line-node : (n : NodeText) → statement_line (statement.Node n) ≡ node_line n
unfolding statement_step
statement_line-node n = ap statement_line (sym (statement.rolls-Node n))
    ∙ fold-roll-Statement (Unit {0}) ℕ ℕ ℕ (λ _. tt) node_step statement_step proto_step (Statement-F.Node n)

pub statement_line-route : (route : RouteText) → statement_line (statement.Route route) ≡ route.line
unfolding statement_step
statement_line-route route = ap statement_line (sym (statement.rolls-Route route))
    ∙ fold-roll-Statement (Unit {0}) ℕ ℕ ℕ (λ _. tt) node_step statement_step proto_step (Statement-F.Statement::Route route)

pub statement_line-proto : (p : ProtoText) → statement_line (statement.Proto p) ≡ (out-ProtoText p).line
unfolding statement_step proto_step
statement_line-proto p = ap statement_line (sym (statement.rolls-Proto p))
    ∙ fold-roll-Statement (Unit {0}) ℕ ℕ ℕ (λ _. tt) node_step statement_step proto_step (Statement-F.Statement::Proto p)
    ∙ fold_out-ProtoText (Unit {0}) ℕ ℕ ℕ (λ _. tt) node_step statement_step proto_step p

pub ruleset node_lemmas = (common_steps, node_line-use, node_line-full)

pub ruleset statement_lemmas = (common_steps, statement_line-node, statement_line-route, statement_line-proto)
