-- The parts of a text with the body in the place of each instance, which texts are quiet, and which names
-- the ISs of a text take.
use Rattle.std.proofs.Common.{◌≡◌, ℕ, Bool, false, List, [], ◌∷◌, ◌++◌, map, Option, Some, ap, sym, ◌∙◌}
use Rattle.classic_tree.specs.declared.tree.BodyItem.{BodyItem, fold-BodyItem, fold-roll-BodyItem}
use Rattle.classic_tree.specs.declared.tree.BodyItem.TheOpen.{BodyItem-F, NodeText-F, Statement-F, ProtoText-F}
use Rattle.classic_tree.specs.declared.tree.BodyItem.TheVariants as item
use Rattle.classic_tree.specs.declared.tree.Declaration.{Declaration}
use Rattle.classic_tree.specs.declared.tree.Given.{Given}
use Rattle.classic_tree.specs.declared.tree.Given.TheVariants as given
use Rattle.classic_tree.specs.declared.tree.NodeText.{NodeText, fold-NodeText, fold-roll-NodeText}
use Rattle.classic_tree.specs.declared.tree.NodeText.TheVariants as node
use Rattle.classic_tree.specs.declared.tree.ProtoText.{ProtoText}
use Rattle.classic_tree.specs.declared.tree.RawValue.TheVariants as value
use Rattle.classic_tree.specs.declared.tree.RouteText.{RouteText}
use Rattle.classic_tree.specs.declared.tree.Statement.{Statement, fold-Statement, fold-roll-Statement}
use Rattle.classic_tree.specs.declared.tree.Statement.TheVariants as statement
use Rattle.classic_tree.proofs.Mapped.{declaration_mapped, given_mapped}
use Rattle.proto_meaning.specs.Names.{Name}
use Rattle.laws_documents.specs.Steps.{all_in}
use Rattle.laws_documents.specs.WithFields.{is_plain, Quiet, may_stand, quiet_item, is_quiet_node, is_quiet_statement, quiet_item_step, quiet_node_step, quiet_statement_step, quiet_proto_step, Finds, Braces, replaced, field_of, those_there, item_step, node_step, statement_step, proto_step, written_item, written_node, written_statement}

module _ (finds : Finds) (braces : Braces) where
  pub written-field : (line : ℕ) (name : Name) (g : Given NodeText) → written_item finds braces (item.Field line name g) ≡ field_of line name (replaced finds (given_mapped (written_node finds braces) g))
  unfolding item_step
  written-field line name g = ap (written_item finds braces) (sym (item.rolls-Field line name g)) ∙ fold-roll-BodyItem (Option BodyItem) NodeText Statement ProtoText (item_step finds) (node_step braces) statement_step proto_step (BodyItem-F.Field line name g)

  pub written-declaration : (d : Declaration NodeText) → written_item finds braces (item.Declaration d) ≡ Some (item.Declaration (record (declaration_mapped (written_node finds braces) d) { given = replaced finds (given_mapped (written_node finds braces) d.given) }))
  unfolding item_step
  written-declaration d = ap (written_item finds braces) (sym (item.rolls-Declaration d)) ∙ fold-roll-BodyItem (Option BodyItem) NodeText Statement ProtoText (item_step finds) (node_step braces) statement_step proto_step (BodyItem-F.Declaration d)

  pub written-full : (line : ℕ) (name : Option Name) (word : Name) (is : List BodyItem) → written_node finds braces (node.Full line name word is) ≡ braces line name word (those_there (map (written_item finds braces) is))
  unfolding node_step
  written-full line name word is = ap (written_node finds braces) (sym (node.rolls-Full line name word is)) ∙ fold-roll-NodeText (Option BodyItem) NodeText Statement ProtoText (item_step finds) (node_step braces) statement_step proto_step (NodeText-F.Full line name word is)

  pub written-node : (n : NodeText) → written_statement finds braces (statement.Node n) ≡ statement.Node (written_node finds braces n)
  unfolding statement_step
  written-node n = ap (written_statement finds braces) (sym (statement.rolls-Node n)) ∙ fold-roll-Statement (Option BodyItem) NodeText Statement ProtoText (item_step finds) (node_step braces) statement_step proto_step (Statement-F.Node n)

-- ---- quiet texts

module _ (proto : Name) (allowed : Bool) where
  pub quiet-field : (line : ℕ) (name : Name) (g : Given NodeText) → quiet_item proto allowed (item.Field line name g) ≡ record { anywhere = all_in (given_mapped (is_quiet_node proto allowed) g); in_instance = is_plain (given_mapped (is_quiet_node proto allowed) g) }
  unfolding quiet_item_step
  quiet-field line name g = ap (quiet_item proto allowed) (sym (item.rolls-Field line name g)) ∙ fold-roll-BodyItem Quiet Bool Bool Bool quiet_item_step (quiet_node_step proto allowed) quiet_statement_step quiet_proto_step (BodyItem-F.Field line name g)

  pub quiet-declaration : (d : Declaration NodeText) → quiet_item proto allowed (item.Declaration d) ≡ record { anywhere = all_in (given_mapped (is_quiet_node proto allowed) d.given); in_instance = false }
  unfolding quiet_item_step
  quiet-declaration d = ap (quiet_item proto allowed) (sym (item.rolls-Declaration d)) ∙ fold-roll-BodyItem Quiet Bool Bool Bool quiet_item_step (quiet_node_step proto allowed) quiet_statement_step quiet_proto_step (BodyItem-F.Declaration d)

  pub quiet-item-route : (r : RouteText) → quiet_item proto allowed (item.Route r) ≡ record { anywhere = false; in_instance = false }
  unfolding quiet_item_step
  quiet-item-route r = ap (quiet_item proto allowed) (sym (item.rolls-Route r)) ∙ fold-roll-BodyItem Quiet Bool Bool Bool quiet_item_step (quiet_node_step proto allowed) quiet_statement_step quiet_proto_step (BodyItem-F.BodyItem::Route r)

  pub quiet-item-proto : (p : ProtoText) → quiet_item proto allowed (item.Proto p) ≡ record { anywhere = false; in_instance = false }
  unfolding quiet_item_step
  quiet-item-proto p = ap (quiet_item proto allowed) (sym (item.rolls-Proto p)) ∙ fold-roll-BodyItem Quiet Bool Bool Bool quiet_item_step (quiet_node_step proto allowed) quiet_statement_step quiet_proto_step (BodyItem-F.BodyItem::Proto p)

  pub quiet-use : (line : ℕ) (name : Name) → is_quiet_node proto allowed (node.Use line name) ≡ false
  unfolding quiet_node_step
  quiet-use line name = ap (is_quiet_node proto allowed) (sym (node.rolls-Use line name)) ∙ fold-roll-NodeText Quiet Bool Bool Bool quiet_item_step (quiet_node_step proto allowed) quiet_statement_step quiet_proto_step (NodeText-F.Use line name)

  pub quiet-full : (line : ℕ) (name : Option Name) (word : Name) (is : List BodyItem) → is_quiet_node proto allowed (node.Full line name word is) ≡ may_stand proto allowed word (map (quiet_item proto allowed) is)
  unfolding quiet_node_step
  quiet-full line name word is = ap (is_quiet_node proto allowed) (sym (node.rolls-Full line name word is)) ∙ fold-roll-NodeText Quiet Bool Bool Bool quiet_item_step (quiet_node_step proto allowed) quiet_statement_step quiet_proto_step (NodeText-F.Full line name word is)

  pub quiet-node : (n : NodeText) → is_quiet_statement proto allowed (statement.Node n) ≡ is_quiet_node proto allowed n
  unfolding quiet_statement_step
  quiet-node n = ap (is_quiet_statement proto allowed) (sym (statement.rolls-Node n)) ∙ fold-roll-Statement Quiet Bool Bool Bool quiet_item_step (quiet_node_step proto allowed) quiet_statement_step quiet_proto_step (Statement-F.Node n)

  pub quiet-route : (r : RouteText) → is_quiet_statement proto allowed (statement.Route r) ≡ false
  unfolding quiet_statement_step
  quiet-route r = ap (is_quiet_statement proto allowed) (sym (statement.rolls-Route r)) ∙ fold-roll-Statement Quiet Bool Bool Bool quiet_item_step (quiet_node_step proto allowed) quiet_statement_step quiet_proto_step (Statement-F.Statement::Route r)

  pub quiet-proto : (p : ProtoText) → is_quiet_statement proto allowed (statement.Proto p) ≡ false
  unfolding quiet_statement_step
  quiet-proto p = ap (is_quiet_statement proto allowed) (sym (statement.rolls-Proto p)) ∙ fold-roll-Statement Quiet Bool Bool Bool quiet_item_step (quiet_node_step proto allowed) quiet_statement_step quiet_proto_step (Statement-F.Statement::Proto p)

-- ---- the names that ISs take, at any depth, in the order of the text

abbrev pub joined : List (List Name) → List Name
joined [] = []
joined (xs ∷ rest) = xs ++ joined rest

abbrev pub asked_in : Given (List Name) → List Name
asked_in (given.Is name) = name ∷ []
asked_in (given.Value (value.Node names)) = names
asked_in (given.Value (value.NodeList all)) = joined all
asked_in _ = []

unfoldable pub asked_item_step : BodyItem-F (List Name) (List Name) (List Name) (List Name) → List Name
asked_item_step (BodyItem-F.Field line name g) = asked_in g
asked_item_step (BodyItem-F.Declaration d) = asked_in d.given
asked_item_step (BodyItem-F.BodyItem::Route route) = []
asked_item_step (BodyItem-F.BodyItem::Proto names) = []

unfoldable pub asked_node_step : NodeText-F (List Name) (List Name) (List Name) (List Name) → List Name
asked_node_step (NodeText-F.Use line name) = []
asked_node_step (NodeText-F.Full line name word items) = joined items

unfoldable pub asked_statement_step : Statement-F (List Name) (List Name) (List Name) (List Name) → List Name
asked_statement_step (Statement-F.Node names) = names
asked_statement_step (Statement-F.Statement::Route route) = []
asked_statement_step (Statement-F.Statement::Proto names) = []

unfoldable pub asked_proto_step : ProtoText-F (List Name) (List Name) (List Name) (List Name) → List Name
asked_proto_step p = []

abbrev pub asked_by_item : BodyItem → List Name
asked_by_item = fold-BodyItem (List Name) (List Name) (List Name) (List Name) asked_item_step asked_node_step asked_statement_step asked_proto_step

abbrev pub asked_by : NodeText → List Name
asked_by = fold-NodeText (List Name) (List Name) (List Name) (List Name) asked_item_step asked_node_step asked_statement_step asked_proto_step

abbrev pub asked_by_statement : Statement → List Name
asked_by_statement = fold-Statement (List Name) (List Name) (List Name) (List Name) asked_item_step asked_node_step asked_statement_step asked_proto_step

pub asked-field : (line : ℕ) (name : Name) (g : Given NodeText) → asked_by_item (item.Field line name g) ≡ asked_in (given_mapped asked_by g)
unfolding asked_item_step
asked-field line name g = ap asked_by_item (sym (item.rolls-Field line name g)) ∙ fold-roll-BodyItem (List Name) (List Name) (List Name) (List Name) asked_item_step asked_node_step asked_statement_step asked_proto_step (BodyItem-F.Field line name g)

pub asked-declaration : (d : Declaration NodeText) → asked_by_item (item.Declaration d) ≡ asked_in (given_mapped asked_by d.given)
unfolding asked_item_step
asked-declaration d = ap asked_by_item (sym (item.rolls-Declaration d)) ∙ fold-roll-BodyItem (List Name) (List Name) (List Name) (List Name) asked_item_step asked_node_step asked_statement_step asked_proto_step (BodyItem-F.Declaration d)

pub asked-full : (line : ℕ) (name : Option Name) (word : Name) (is : List BodyItem) → asked_by (node.Full line name word is) ≡ joined (map asked_by_item is)
unfolding asked_node_step
asked-full line name word is = ap asked_by (sym (node.rolls-Full line name word is)) ∙ fold-roll-NodeText (List Name) (List Name) (List Name) (List Name) asked_item_step asked_node_step asked_statement_step asked_proto_step (NodeText-F.Full line name word is)

pub asked-node : (n : NodeText) → asked_by_statement (statement.Node n) ≡ asked_by n
unfolding asked_statement_step
asked-node n = ap asked_by_statement (sym (statement.rolls-Node n)) ∙ fold-roll-Statement (List Name) (List Name) (List Name) (List Name) asked_item_step asked_node_step asked_statement_step asked_proto_step (Statement-F.Node n)
