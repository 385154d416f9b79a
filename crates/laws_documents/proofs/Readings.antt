-- How each part of a tree is read, over any state.
use Rattle.std.proofs.Common.{◌≡◌, ℕ, List, [], ◌∷◌, map, Option, refl, ap, sym, ◌∙◌}
use Rattle.classic_tree.specs.declared.tree.BodyItem.{BodyItem, fold-roll-BodyItem}
use Rattle.classic_tree.specs.declared.tree.BodyItem.TheOpen.{BodyItem-F, NodeText-F, Statement-F}
use Rattle.classic_tree.specs.declared.tree.BodyItem.TheVariants as item
use Rattle.classic_tree.specs.declared.tree.Declaration.{Declaration}
use Rattle.classic_tree.specs.declared.tree.Given.{Given}
use Rattle.classic_tree.specs.declared.tree.Given.TheVariants as given
use Rattle.classic_tree.specs.declared.tree.NodeText.{NodeText, fold-roll-NodeText}
use Rattle.classic_tree.specs.declared.tree.NodeText.TheVariants as node
use Rattle.classic_tree.specs.declared.tree.ProtoText.{ProtoText}
use Rattle.classic_tree.specs.declared.tree.RawValue.TheVariants as value
use Rattle.classic_tree.specs.declared.tree.RouteText.{RouteText}
use Rattle.classic_tree.specs.declared.tree.Statement.{fold-roll-Statement}
use Rattle.classic_tree.specs.declared.tree.Statement.TheVariants as statement
use Rattle.classic_tree.proofs.Mapped.{given_mapped}
use Rattle.laws_documents.specs.Readings.{StateChange, Steps, each, read_given, read_item, read_node, read_statement, item_step, node_step, proto_step, statement_step}

module _ {S : Type 0} where
  abbrev itself : StateChange S → StateChange S
  itself step = step

  each-mapped : {A : Type 0} (f : A → StateChange S) (xs : List A) (s : S) → each itself (map f xs) s ≡ each f xs s
  each-mapped f [] s = refl
  each-mapped f (x ∷ xs) s = each-mapped f xs (f x s)

  given-mapped : (f : NodeText → StateChange S) (g : Given NodeText) (s : S) → read_given itself (given_mapped f g) s ≡ read_given f g s
  given-mapped f given.Nothing s = refl
  given-mapped f (given.Value value.Null) s = refl
  given-mapped f (given.Value (value.Truth truth)) s = refl
  given-mapped f (given.Value (value.String text)) s = refl
  given-mapped f (given.Value (value.Numbers numbers)) s = refl
  given-mapped f (given.Value (value.Node inner)) s = refl
  given-mapped f (given.Value value.EmptyList) s = refl
  given-mapped f (given.Value (value.TruthList truths)) s = refl
  given-mapped f (given.Value (value.StringList texts)) s = refl
  given-mapped f (given.Value (value.NumberList numbers)) s = refl
  given-mapped f (given.Value (value.NodeList nodes)) s = each-mapped f nodes s
  given-mapped f (given.Is other) s = refl

module _ {S : Type 0} (steps : Steps S) where
  pub read-field : (line : ℕ) (name : List ℕ) (g : Given NodeText) (s : S) → read_item steps (item.Field line name g) s ≡ read_given (read_node steps) g s
  unfolding item_step
  read-field line name g s =
      ap (λ i. read_item steps i s) (sym (item.rolls-Field line name g))
      ∙ ap (λ (step : StateChange S). step s) (fold-roll-BodyItem (StateChange S) (StateChange S) (StateChange S) (StateChange S) (item_step steps) (node_step steps) (statement_step steps) (proto_step steps) (BodyItem-F.Field line name g)) ∙ given-mapped (read_node steps) g s

  pub read-declaration : (d : Declaration NodeText) (s : S) → read_item steps (item.Declaration d) s ≡ read_given (read_node steps) d.given s
  unfolding item_step
  read-declaration d s =
      ap (λ i. read_item steps i s) (sym (item.rolls-Declaration d))
      ∙ ap (λ (step : StateChange S). step s) (fold-roll-BodyItem (StateChange S) (StateChange S) (StateChange S) (StateChange S) (item_step steps) (node_step steps) (statement_step steps) (proto_step steps) (BodyItem-F.Declaration d)) ∙ given-mapped (read_node steps) d.given s

  pub read-item-route : (route : RouteText) (s : S) → read_item steps (item.Route route) s ≡ steps.routes route s
  unfolding item_step
  read-item-route route s =
      ap (λ i. read_item steps i s) (sym (item.rolls-Route route))
      ∙ ap (λ (step : StateChange S). step s) (fold-roll-BodyItem (StateChange S) (StateChange S) (StateChange S) (StateChange S) (item_step steps) (node_step steps) (statement_step steps) (proto_step steps) (BodyItem-F.BodyItem::Route route))

  pub read-item-proto : (p : ProtoText) (s : S) → read_item steps (item.Proto p) s ≡ s
  unfolding item_step
  read-item-proto p s =
      ap (λ i. read_item steps i s) (sym (item.rolls-Proto p))
      ∙ ap (λ (step : StateChange S). step s) (fold-roll-BodyItem (StateChange S) (StateChange S) (StateChange S) (StateChange S) (item_step steps) (node_step steps) (statement_step steps) (proto_step steps) (BodyItem-F.BodyItem::Proto p))

  pub read-use : (line : ℕ) (name : List ℕ) (s : S) → read_node steps (node.Use line name) s ≡ steps.uses name s
  unfolding node_step
  read-use line name s =
      ap (λ n. read_node steps n s) (sym (node.rolls-Use line name))
      ∙ ap (λ (step : StateChange S). step s) (fold-roll-NodeText (StateChange S) (StateChange S) (StateChange S) (StateChange S) (item_step steps) (node_step steps) (statement_step steps) (proto_step steps) (NodeText-F.Use line name))

  pub read-full : (line : ℕ) (name : Option (List ℕ)) (word : List ℕ) (items : List BodyItem) (s : S)
      → read_node steps (node.Full line name word items) s ≡ steps.closes name s (each (read_item steps) items (steps.opens name s))
  unfolding node_step
  read-full line name word items s =
      ap (λ n. read_node steps n s) (sym (node.rolls-Full line name word items))
      ∙ ap (λ (step : StateChange S). step s) (fold-roll-NodeText (StateChange S) (StateChange S) (StateChange S) (StateChange S) (item_step steps) (node_step steps) (statement_step steps) (proto_step steps) (NodeText-F.Full line name word items))
      ∙ ap (steps.closes name s) (each-mapped (read_item steps) items (steps.opens name s))

  pub read-node-statement : (n : NodeText) (s : S) → read_statement steps (statement.Node n) s ≡ read_node steps n s
  unfolding statement_step
  read-node-statement n s =
      ap (λ t. read_statement steps t s) (sym (statement.rolls-Node n))
      ∙ ap (λ (step : StateChange S). step s) (fold-roll-Statement (StateChange S) (StateChange S) (StateChange S) (StateChange S) (item_step steps) (node_step steps) (statement_step steps) (proto_step steps) (Statement-F.Node n))

  pub read-route : (route : RouteText) (s : S) → read_statement steps (statement.Route route) s ≡ steps.routes route s
  unfolding statement_step
  read-route route s =
      ap (λ t. read_statement steps t s) (sym (statement.rolls-Route route))
      ∙ ap (λ (step : StateChange S). step s) (fold-roll-Statement (StateChange S) (StateChange S) (StateChange S) (StateChange S) (item_step steps) (node_step steps) (statement_step steps) (proto_step steps) (Statement-F.Statement::Route route))

  pub read-proto : (p : ProtoText) (s : S) → read_statement steps (statement.Proto p) s ≡ s
  unfolding statement_step
  read-proto p s =
      ap (λ t. read_statement steps t s) (sym (statement.rolls-Proto p))
      ∙ ap (λ (step : StateChange S). step s) (fold-roll-Statement (StateChange S) (StateChange S) (StateChange S) (StateChange S) (item_step steps) (node_step steps) (statement_step steps) (proto_step steps) (Statement-F.Statement::Proto p))
