-- The nodes of a document without instances are those of its pairs of braces.
use Rattle.std.proofs.Common.{◌≡◌, ℕ, List, [], ◌∷◌, ◌++◌, Option, Some, map, refl, ap, sym, ◌∙◌}
use Rattle.std.specs.List.{flat_map}
use Rattle.std.proofs.lemmas.List.{append-nil, append_assoc, map-append}
use Rattle.x3d_values.specs.declared.node_type.NodeType.{NodeType}
use Rattle.x3d_values.specs.Names.{node_type_named}
use Rattle.classic_tree.specs.declared.tree.BodyItem.{BodyItem}
use Rattle.classic_tree.specs.declared.tree.Given.{Given}
use Rattle.classic_tree.specs.declared.tree.Given.TheVariants as given
use Rattle.classic_tree.specs.declared.tree.NodeText.{NodeText}
use Rattle.classic_tree.specs.declared.tree.RawValue.TheVariants as value
use Rattle.proto_flat.specs.declared.flat.FlatNode.{FlatNode}
use Rattle.proto_meaning.specs.Names.{Name}
use Rattle.laws_documents.specs.Plain.{Reading}
use Rattle.laws_documents.specs.Closings.{Braces, Shown, expected, shown, in_given, in_item, in_node, in_statement}
use Rattle.laws_documents.specs.Readings.{each, read_given}
use Rattle.laws_documents.proofs.ClosingParts.{in_field, in_declaration, in_item_route, in_item_proto, in_use, in_full, in_node_statement, in_route, in_proto}
use Rattle.laws_documents.specs.PlainLaws.{NodesClose}
use Rattle.laws_documents.proofs.Keeping.{Law, all_keep}
use Rattle.laws_documents.proofs.ReadWhole.{flat_is_read}

abbrev Nodes : Type 0
Nodes = List Shown

-- a part adds the nodes of the braces in it
abbrev with_braces : {A : Type 0} → (A → List Braces) → A → Nodes → Nodes
with_braces f a x = x ++ map expected (f a)

none_more : (x : Nodes) → x ++ [] ≡ x
none_more x = append-nil x

each_adds : {A : Type 0} (f : A → List Braces) (xs : List A) (x : Nodes) → each (with_braces f) xs x ≡ x ++ map expected (flat_map f xs)
each_adds f [] x = sym (append-nil x)
each_adds f (a ∷ xs) x =
    each_adds f xs (x ++ map expected (f a)) ∙ append_assoc x (map expected (f a)) (map expected (flat_map f xs)) ∙ ap (λ ns. x ++ ns) (sym (map-append expected (f a) (flat_map f xs)))

given_adds : (g : Given NodeText) (x : Nodes) → x ++ map expected (in_given in_node g) ≡ read_given (with_braces in_node) g x
given_adds given.Nothing x = none_more x
given_adds (given.Is name) x = none_more x
given_adds (given.Value value.Null) x = none_more x
given_adds (given.Value (value.Truth truth)) x = none_more x
given_adds (given.Value (value.String text)) x = none_more x
given_adds (given.Value (value.Numbers numbers)) x = none_more x
given_adds (given.Value (value.Node n)) x = refl
given_adds (given.Value value.EmptyList) x = none_more x
given_adds (given.Value (value.TruthList truths)) x = none_more x
given_adds (given.Value (value.StringList texts)) x = none_more x
given_adds (given.Value (value.NumberList numbers)) x = none_more x
given_adds (given.Value (value.NodeList ns)) x = sym (each_adds in_node ns x)

adds : (x : Nodes) (a b : List Braces) → a ≡ b → x ++ map expected a ≡ x ++ map expected b
adds x a b e = ap (λ bs. x ++ map expected bs) e

full_adds : (line : ℕ) (name : Option Name) (word : Name) (is : List BodyItem) (x : Nodes)
    → x ++ map expected (flat_map in_item is ++ record { word = word; name = name } ∷ []) ≡ each (with_braces in_item) is x ++ expected (record { word = word; name = name }) ∷ []
full_adds line name word is x =
    let b : Braces = record { word = word; name = name } in
    ap (λ ns. x ++ ns) (map-append expected (flat_map in_item is) (b ∷ []))
    ∙ sym (append_assoc x (map expected (flat_map in_item is)) (expected b ∷ []))
    ∙ ap (λ ns. ns ++ expected b ∷ []) (sym (each_adds in_item is x))

-- the nodes are those of the braces that are closed
abbrev Closed : List ℕ → Reading → Nodes → Type 0
Closed here r x = map shown r.nodes ≡ x

closes : (name : Option Name) (word : Name) (t : NodeType) (node : FlatNode) (q : Reading) (y : Nodes) → node_type_named word ≡ Some t → node.node_type ≡ t → node.name ≡ name → map shown q.nodes ≡ y
    → map shown (q.nodes ++ node ∷ []) ≡ y ++ expected (record { word = word; name = name }) ∷ []
closes name word t node q y e k n h =
    map-append shown q.nodes (node ∷ []) ∙ ap (λ ns. ns ++ shown node ∷ []) h
    ∙ ap (λ (o : Option NodeType). y ++ (o, node.name) ∷ []) (ap (λ (u : NodeType). Some u) k ∙ sym e)
    ∙ ap (λ (m : Option Name). y ++ (node_type_named word, m) ∷ []) n

law : Law Closed
law = record {
  node = with_braces in_node;
  item = with_braces in_item;
  statement = with_braces in_statement;
  uses = λ name x. x;
  routes = λ route x. x;
  opens = λ name x. x;
  closes = λ name word x y. y ++ expected (record { word = word; name = name }) ∷ [];
  at_field = λ line name g x. adds x _ _ (in_field line name g) ∙ given_adds g x;
  at_declaration = λ d x. adds x _ _ (in_declaration d) ∙ given_adds d.given x;
  at_item_route = λ route x. adds x _ _ (in_item_route route) ∙ none_more x;
  at_item_proto = λ p x. adds x _ _ (in_item_proto p) ∙ none_more x;
  at_use = λ line name x. adds x _ _ (in_use line name) ∙ none_more x;
  at_full = λ line name word is x. adds x _ _ (in_full line name word is) ∙ full_adds line name word is x;
  at_node = λ n x. adds x _ _ (in_node_statement n);
  at_route = λ route x. adds x _ _ (in_route route) ∙ none_more x;
  at_proto = λ p x. adds x _ _ (in_proto p) ∙ none_more x;
  used = λ name here r x k i e. i;
  routed = λ route here r x i. i;
  opened_by = λ name here r x i. i;
  closed_by = λ name word t node here inner r q x y e k n h i j. closes name word t node q y e k n j;
}

pub nodes_close : NodesClose
unfolding law
nodes_close d f k e =
    let told = flat_is_read _ d f k e (all_keep Closed law d.statements (record { nodes = []; pairs = []; wires = [] }) [] refl) in
    ap (λ g. map shown g.nodes) (sym told.is) ∙ told.told ∙ each_adds in_statement d.statements []
