-- How each part of a tree is read.
use Rattle.std.proofs.Common.{◌≡◌, ℕ, List, [], ◌∷◌, ◌++◌, map, Option, refl, ap, sym, ◌∙◌}
use Rattle.std.specs.List.{flat_map}
use Rattle.x3d_values.specs.Names.{node_type_named}
use Rattle.classic_tree.specs.declared.tree.BodyItem.{BodyItem, fold-roll-BodyItem}
use Rattle.classic_tree.specs.declared.tree.BodyItem.TheOpen.{BodyItem-F, NodeText-F, Statement-F}
use Rattle.classic_tree.specs.declared.tree.BodyItem.TheVariants as item
use Rattle.classic_tree.specs.declared.tree.Declaration.{Declaration}
use Rattle.classic_tree.specs.declared.tree.Given.{Given}
use Rattle.classic_tree.specs.declared.tree.Given.TheVariants as given
use Rattle.classic_tree.specs.declared.tree.NodeText.{NodeText, fold-roll-NodeText}
use Rattle.classic_tree.specs.declared.tree.NodeText.TheVariants as node
use Rattle.classic_tree.specs.declared.tree.ProtoText.{ProtoText}
use Rattle.classic_tree.specs.declared.tree.RawValue.TheVariants as value
use Rattle.classic_tree.specs.declared.tree.RouteText.{RouteText}
use Rattle.classic_tree.specs.declared.tree.Statement.{fold-roll-Statement}
use Rattle.classic_tree.specs.declared.tree.Statement.TheVariants as statement
use Rattle.classic_tree.proofs.Mapped.{given_mapped}
use Rattle.laws_documents.specs.Signatures.{Signature, signature}
use Rattle.laws_documents.specs.Uses.{named}
use Rattle.laws_documents.specs.Fields.{FieldRead, Reading, Got, closes, interface_of, numbering, opens, FieldItem, NodeStep, Numbering, StatementStep, each, gives, got_map, read_one, read_full, read_given, read_item, read_node, read_statement, declares, item_step, node_step, proto_step, statement_step}
use Rattle.laws_documents.specs.Fields.{item as item_read}

abbrev itself : NodeStep → NodeStep
itself step = step

each-one : (f : NodeText → NodeStep) (xs : List NodeText) (b : List (Option ℕ)) (r : Reading) → each (read_one itself) (map f xs) b r ≡ each (read_one f) xs b r
each-one f [] b r = refl
each-one f (x ∷ xs) b r = each-one f xs (read_one f x b r).what (read_one f x b r).after

given-mapped : (f : NodeText → NodeStep) (line : ℕ) (number : Option ℕ) (g : Given NodeText) (before : List FieldRead) (r : Reading) → read_given itself line number (given_mapped f g) before r ≡ read_given f line number g before r
given-mapped f line number given.Nothing before r = refl
given-mapped f line number (given.Value value.Null) before r = refl
given-mapped f line number (given.Value (value.Truth truth)) before r = refl
given-mapped f line number (given.Value (value.String text)) before r = refl
given-mapped f line number (given.Value (value.Numbers numbers)) before r = refl
given-mapped f line number (given.Value (value.Node inner)) before r = refl
given-mapped f line number (given.Value value.EmptyList) before r = refl
given-mapped f line number (given.Value (value.TruthList truths)) before r = refl
given-mapped f line number (given.Value (value.StringList texts)) before r = refl
given-mapped f line number (given.Value (value.NumberList numbers)) before r = refl
given-mapped f line number (given.Value (value.NodeList nodes)) before r =
    ap (λ (g : Got (List (Option ℕ))). got_map (λ x. before ++ record { line = line; number = number; value = value.NodeList x } ∷ []) g) (each-one f nodes [] r)
given-mapped f line number (given.Is other) before r = refl

module _ (numbers : Numbering) (before : List FieldRead) (r : Reading) where
  pub read-field : (line : ℕ) (name : List ℕ) (g : Given NodeText) → read_item numbers (item.Field line name g) before r ≡ read_given read_node line (numbers name) g before r
  unfolding item_step
  read-field line name g =
      ap (λ i. read_item numbers i before r) (sym (item.rolls-Field line name g))
      ∙ ap (λ (s : FieldItem). s.reads numbers before r) (fold-roll-BodyItem FieldItem NodeStep StatementStep StatementStep item_step node_step statement_step proto_step (BodyItem-F.Field line name g))
      ∙ given-mapped read_node line (numbers name) g before r

  pub read-declaration : (d : Declaration NodeText) → read_item numbers (item.Declaration d) before r ≡ read_given read_node d.line (numbers d.name) d.given before r
  unfolding item_step
  read-declaration d =
      ap (λ i. read_item numbers i before r) (sym (item.rolls-Declaration d))
      ∙ ap (λ (s : FieldItem). s.reads numbers before r) (fold-roll-BodyItem FieldItem NodeStep StatementStep StatementStep item_step node_step statement_step proto_step (BodyItem-F.Declaration d))
      ∙ given-mapped read_node d.line (numbers d.name) d.given before r

  pub read-item-route : (route : RouteText) → read_item numbers (item.Route route) before r ≡ gives before r
  unfolding item_step
  read-item-route route =
      ap (λ i. read_item numbers i before r) (sym (item.rolls-Route route))
      ∙ ap (λ (s : FieldItem). s.reads numbers before r) (fold-roll-BodyItem FieldItem NodeStep StatementStep StatementStep item_step node_step statement_step proto_step (BodyItem-F.BodyItem::Route route))

  pub read-item-proto : (p : ProtoText) → read_item numbers (item.Proto p) before r ≡ gives before r
  unfolding item_step
  read-item-proto p =
      ap (λ i. read_item numbers i before r) (sym (item.rolls-Proto p))
      ∙ ap (λ (s : FieldItem). s.reads numbers before r) (fold-roll-BodyItem FieldItem NodeStep StatementStep StatementStep item_step node_step statement_step proto_step (BodyItem-F.BodyItem::Proto p))

-- ---- what is declared

pub declares-field : (line : ℕ) (name : List ℕ) (g : Given NodeText) → declares (item.Field line name g) ≡ []
unfolding item_step
declares-field line name g =
    ap declares (sym (item.rolls-Field line name g)) ∙ ap (λ (s : FieldItem). s.declares) (fold-roll-BodyItem FieldItem NodeStep StatementStep StatementStep item_step node_step statement_step proto_step (BodyItem-F.Field line name g))

pub declares-declaration : (d : Declaration NodeText) → declares (item.Declaration d) ≡ signature d ∷ []
unfolding item_step
declares-declaration d =
    ap declares (sym (item.rolls-Declaration d)) ∙ ap (λ (s : FieldItem). s.declares) (fold-roll-BodyItem FieldItem NodeStep StatementStep StatementStep item_step node_step statement_step proto_step (BodyItem-F.Declaration d))

pub declares-route : (route : RouteText) → declares (item.Route route) ≡ []
unfolding item_step
declares-route route =
    ap declares (sym (item.rolls-Route route)) ∙ ap (λ (s : FieldItem). s.declares) (fold-roll-BodyItem FieldItem NodeStep StatementStep StatementStep item_step node_step statement_step proto_step (BodyItem-F.BodyItem::Route route))

pub declares-proto : (p : ProtoText) → declares (item.Proto p) ≡ []
unfolding item_step
declares-proto p =
    ap declares (sym (item.rolls-Proto p)) ∙ ap (λ (s : FieldItem). s.declares) (fold-roll-BodyItem FieldItem NodeStep StatementStep StatementStep item_step node_step statement_step proto_step (BodyItem-F.BodyItem::Proto p))

-- ---- nodes

pub read-use : (line : ℕ) (name : List ℕ) (r : Reading) → read_node (node.Use line name) r ≡ gives (named name r.opened) r
unfolding node_step
read-use line name r =
    ap (λ n. read_node n r) (sym (node.rolls-Use line name))
    ∙ ap (λ (s : NodeStep). s r) (fold-roll-NodeText FieldItem NodeStep StatementStep StatementStep item_step node_step statement_step proto_step (NodeText-F.Use line name))

abbrev pub all_declared : List BodyItem → List Signature
all_declared items = flat_map declares items

declares-mapped : (items : List BodyItem) → flat_map (λ (i : FieldItem). i.declares) (map item_read items) ≡ all_declared items
declares-mapped [] = refl
declares-mapped (i ∷ items) = ap (λ ss. declares i ++ ss) (declares-mapped items)

each-mapped : (numbers : Numbering) (items : List BodyItem) (b : List FieldRead) (r : Reading) → each (λ (i : FieldItem). i.reads numbers) (map item_read items) b r ≡ each (read_item numbers) items b r
each-mapped numbers [] b r = refl
each-mapped numbers (i ∷ items) b r = each-mapped numbers items (read_item numbers i b r).what (read_item numbers i b r).after

abbrev Parts : Type 0
Parts = Numbering → List FieldRead → Reading → Got (List FieldRead)

full-parts : (name : Option (List ℕ)) (word : List ℕ) (items : List BodyItem) (ss : List Signature) (r : Reading) →
    read_full name (node_type_named word) ss (λ numbers. each (λ (i : FieldItem). i.reads numbers) (map item_read items)) r ≡ read_full name (node_type_named word) ss (λ numbers. each (read_item numbers) items) r
full-parts name word items ss r =
    ap (λ (g : Got (List FieldRead)). closes name r (interface_of (node_type_named word) ss) g)
    (each-mapped (numbering (node_type_named word) ss) items [] (opens name r))

pub read-full : (line : ℕ) (name : Option (List ℕ)) (word : List ℕ) (items : List BodyItem) (r : Reading)
    → read_node (node.Full line name word items) r ≡ read_full name (node_type_named word) (all_declared items) (λ numbers. each (read_item numbers) items) r
unfolding node_step
read-full line name word items r =
    ap (λ n. read_node n r) (sym (node.rolls-Full line name word items))
    ∙ ap (λ (s : NodeStep). s r) (fold-roll-NodeText FieldItem NodeStep StatementStep StatementStep item_step node_step statement_step proto_step (NodeText-F.Full line name word items))
    ∙ full-parts name word items (flat_map (λ (i : FieldItem). i.declares) (map item_read items)) r
    ∙ ap (λ ss. read_full name (node_type_named word) ss (λ numbers. each (read_item numbers) items) r) (declares-mapped items)

-- ---- statements

pub read-node-statement : (n : NodeText) (r : Reading) → read_statement (statement.Node n) r ≡ (read_node n r).after
unfolding statement_step
read-node-statement n r =
    ap (λ s. read_statement s r) (sym (statement.rolls-Node n))
    ∙ ap (λ (s : StatementStep). s r) (fold-roll-Statement FieldItem NodeStep StatementStep StatementStep item_step node_step statement_step proto_step (Statement-F.Node n))

pub read-route : (route : RouteText) (r : Reading) → read_statement (statement.Route route) r ≡ r
unfolding statement_step
read-route route r =
    ap (λ s. read_statement s r) (sym (statement.rolls-Route route))
    ∙ ap (λ (s : StatementStep). s r) (fold-roll-Statement FieldItem NodeStep StatementStep StatementStep item_step node_step statement_step proto_step (Statement-F.Statement::Route route))

pub read-proto : (p : ProtoText) (r : Reading) → read_statement (statement.Proto p) r ≡ r
unfolding statement_step
read-proto p r =
    ap (λ s. read_statement s r) (sym (statement.rolls-Proto p))
    ∙ ap (λ (s : StatementStep). s r) (fold-roll-Statement FieldItem NodeStep StatementStep StatementStep item_step node_step statement_step proto_step (Statement-F.Statement::Proto p))
