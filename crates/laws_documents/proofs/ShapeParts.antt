-- The shapes in each part of a tree.
use Rattle.std.proofs.Common.{◌≡◌, ℕ, List, [], ◌∷◌, ◌++◌, map, Option, refl, ap, sym, ◌∙◌}
use Rattle.std.proofs.Math.Path.{fun_ext}
use Rattle.std.specs.List.{flat_map}
use Rattle.classic_tree.specs.declared.tree.BodyItem.{BodyItem, fold-roll-BodyItem}
use Rattle.classic_tree.specs.declared.tree.BodyItem.TheOpen.{BodyItem-F, NodeText-F, Statement-F}
use Rattle.classic_tree.specs.declared.tree.BodyItem.TheVariants as item
use Rattle.classic_tree.specs.declared.tree.Declaration.{Declaration}
use Rattle.classic_tree.specs.declared.tree.Given.{Given}
use Rattle.classic_tree.specs.declared.tree.Given.TheVariants as given
use Rattle.classic_tree.specs.declared.tree.NodeText.{NodeText, fold-roll-NodeText}
use Rattle.classic_tree.specs.declared.tree.NodeText.TheVariants as node
use Rattle.classic_tree.specs.declared.tree.ProtoText.{ProtoText}
use Rattle.classic_tree.specs.declared.tree.RawValue.TheVariants as value
use Rattle.classic_tree.specs.declared.tree.RouteText.{RouteText}
use Rattle.classic_tree.specs.declared.tree.Statement.{fold-roll-Statement}
use Rattle.classic_tree.specs.declared.tree.Statement.TheVariants as statement
use Rattle.classic_tree.proofs.Mapped.{given_mapped}
use Rattle.laws_documents.specs.Signatures.{Signature, signature}
use Rattle.laws_documents.specs.Fields.{Numbering}
use Rattle.laws_documents.specs.Shapes.{FieldShape, ItemShape, Shapes, given_shape, in_given, in_node, in_statement, item_shape, item_step, no_node, no_shape, node_of, node_step, proto_step, statement_step}

abbrev inside : Shapes → Shapes
inside shapes = shapes

flat_mapped : {A : Type 0} (f : A → Shapes) (xs : List A) → flat_map inside (map f xs) ≡ flat_map f xs
flat_mapped f [] = refl
flat_mapped f (x ∷ xs) = ap (λ rest. f x ++ rest) (flat_mapped f xs)

in_mapped : (f : NodeText → Shapes) (g : Given NodeText) → in_given inside (given_mapped f g) ≡ in_given f g
in_mapped f given.Nothing = refl
in_mapped f (given.Value value.Null) = refl
in_mapped f (given.Value (value.Truth truth)) = refl
in_mapped f (given.Value (value.String text)) = refl
in_mapped f (given.Value (value.Numbers numbers)) = refl
in_mapped f (given.Value (value.Node inner)) = refl
in_mapped f (given.Value value.EmptyList) = refl
in_mapped f (given.Value (value.TruthList truths)) = refl
in_mapped f (given.Value (value.StringList texts)) = refl
in_mapped f (given.Value (value.NumberList numbers)) = refl
in_mapped f (given.Value (value.NodeList nodes)) = flat_mapped f nodes
in_mapped f (given.Is other) = refl

blank_mapped : (f : NodeText → Shapes) (nodes : List NodeText) → map no_node (map f nodes) ≡ map no_node nodes
blank_mapped f [] = refl
blank_mapped f (n ∷ nodes) = ap (λ (rest : List (Unit {0})). tt ∷ rest) (blank_mapped f nodes)

shape_mapped : (f : NodeText → Shapes) (line : ℕ) (number : Option ℕ) (g : Given NodeText) → given_shape line number (given_mapped f g) ≡ given_shape line number g
shape_mapped f line number given.Nothing = refl
shape_mapped f line number (given.Value value.Null) = refl
shape_mapped f line number (given.Value (value.Truth truth)) = refl
shape_mapped f line number (given.Value (value.String text)) = refl
shape_mapped f line number (given.Value (value.Numbers numbers)) = refl
shape_mapped f line number (given.Value (value.Node inner)) = refl
shape_mapped f line number (given.Value value.EmptyList) = refl
shape_mapped f line number (given.Value (value.TruthList truths)) = refl
shape_mapped f line number (given.Value (value.StringList texts)) = refl
shape_mapped f line number (given.Value (value.NumberList numbers)) = refl
shape_mapped f line number (given.Value (value.NodeList nodes)) =
    ap (λ (ns : List (Unit {0})). record { line = line; number = number; value = value.NodeList ns } ∷ []) (blank_mapped f nodes)
shape_mapped f line number (given.Is other) = refl

-- an item with these parts
pub record HasShape (s : ItemShape) (inner : Shapes) (fields : Numbering → List FieldShape) (declares : List Signature) : Type 0 where
  pub has_inside : s.inside ≡ inner
  pub has_fields : (numbers : Numbering) → s.fields numbers ≡ fields numbers
  pub has_declared : s.declares ≡ declares

pub shape-field : (line : ℕ) (name : List ℕ) (g : Given NodeText) → HasShape (item_shape (item.Field line name g)) (in_given in_node g) (λ numbers. given_shape line (numbers name) g) []
unfolding item_step
shape-field line name g =
    let e = ap item_shape (sym (item.rolls-Field line name g)) ∙ fold-roll-BodyItem ItemShape Shapes Shapes Shapes item_step node_step statement_step proto_step (BodyItem-F.Field line name g) in
    record {
      has_inside = ap (λ (s : ItemShape). s.inside) e ∙ in_mapped in_node g;
      has_fields = λ numbers. ap (λ (s : ItemShape). s.fields numbers) e ∙ shape_mapped in_node line (numbers name) g;
      has_declared = ap (λ (s : ItemShape). s.declares) e;
    }

pub shape-declaration : (d : Declaration NodeText) → HasShape (item_shape (item.Declaration d)) (in_given in_node d.given) (λ numbers. given_shape d.line (numbers d.name) d.given) (signature d ∷ [])
unfolding item_step
shape-declaration d =
    let e = ap item_shape (sym (item.rolls-Declaration d)) ∙ fold-roll-BodyItem ItemShape Shapes Shapes Shapes item_step node_step statement_step proto_step (BodyItem-F.Declaration d) in
    record {
      has_inside = ap (λ (s : ItemShape). s.inside) e ∙ in_mapped in_node d.given;
      has_fields = λ numbers. ap (λ (s : ItemShape). s.fields numbers) e ∙ shape_mapped in_node d.line (numbers d.name) d.given;
      has_declared = ap (λ (s : ItemShape). s.declares) e;
    }

pub shape-item-route : (route : RouteText) → item_shape (item.Route route) ≡ no_shape
unfolding item_step
shape-item-route route =
    ap item_shape (sym (item.rolls-Route route)) ∙ fold-roll-BodyItem ItemShape Shapes Shapes Shapes item_step node_step statement_step proto_step (BodyItem-F.BodyItem::Route route)

pub shape-item-proto : (p : ProtoText) → item_shape (item.Proto p) ≡ no_shape
unfolding item_step
shape-item-proto p =
    ap item_shape (sym (item.rolls-Proto p)) ∙ fold-roll-BodyItem ItemShape Shapes Shapes Shapes item_step node_step statement_step proto_step (BodyItem-F.BodyItem::Proto p)

pub in_use : (line : ℕ) (name : List ℕ) → in_node (node.Use line name) ≡ []
unfolding node_step
in_use line name = ap in_node (sym (node.rolls-Use line name)) ∙ fold-roll-NodeText ItemShape Shapes Shapes Shapes item_step node_step statement_step proto_step (NodeText-F.Use line name)

abbrev pub insides : List BodyItem → Shapes
insides items = flat_map (λ i. (item_shape i).inside) items

abbrev pub all_fields : List BodyItem → Numbering → List FieldShape
all_fields items numbers = flat_map (λ i. (item_shape i).fields numbers) items

abbrev pub declared_shapes : List BodyItem → List Signature
declared_shapes items = flat_map (λ i. (item_shape i).declares) items

insides_mapped : (items : List BodyItem) → flat_map (λ (i : ItemShape). i.inside) (map item_shape items) ≡ insides items
insides_mapped [] = refl
insides_mapped (i ∷ items) = ap (λ rest. (item_shape i).inside ++ rest) (insides_mapped items)

fields_mapped : (items : List BodyItem) (numbers : Numbering) → flat_map (λ (i : ItemShape). i.fields numbers) (map item_shape items) ≡ all_fields items numbers
fields_mapped [] numbers = refl
fields_mapped (i ∷ items) numbers = ap (λ rest. (item_shape i).fields numbers ++ rest) (fields_mapped items numbers)

declared_mapped : (items : List BodyItem) → flat_map (λ (i : ItemShape). i.declares) (map item_shape items) ≡ declared_shapes items
declared_mapped [] = refl
declared_mapped (i ∷ items) = ap (λ rest. (item_shape i).declares ++ rest) (declared_mapped items)

pub in_full : (line : ℕ) (name : Option (List ℕ)) (word : List ℕ) (items : List BodyItem)
    → in_node (node.Full line name word items) ≡ insides items ++ node_of word (declared_shapes items) (all_fields items) ∷ []
unfolding node_step
in_full line name word items =
    ap in_node (sym (node.rolls-Full line name word items)) ∙ fold-roll-NodeText ItemShape Shapes Shapes Shapes item_step node_step statement_step proto_step (NodeText-F.Full line name word items)
    ∙ ap (λ first. first ++ node_of word (flat_map (λ (i : ItemShape). i.declares) (map item_shape items)) (λ numbers. flat_map (λ (i : ItemShape). i.fields numbers) (map item_shape items)) ∷ []) (insides_mapped items)
    ∙ ap (λ ss. insides items ++ node_of word ss (λ numbers. flat_map (λ (i : ItemShape). i.fields numbers) (map item_shape items)) ∷ []) (declared_mapped items)
    ∙ ap (λ (fs : Numbering → List FieldShape). insides items ++ node_of word (declared_shapes items) fs ∷ []) (fun_ext (fields_mapped items))

pub in_node_statement : (n : NodeText) → in_statement (statement.Node n) ≡ in_node n
unfolding statement_step
in_node_statement n = ap in_statement (sym (statement.rolls-Node n)) ∙ fold-roll-Statement ItemShape Shapes Shapes Shapes item_step node_step statement_step proto_step (Statement-F.Node n)

pub in_route : (route : RouteText) → in_statement (statement.Route route) ≡ []
unfolding statement_step
in_route route = ap in_statement (sym (statement.rolls-Route route)) ∙ fold-roll-Statement ItemShape Shapes Shapes Shapes item_step node_step statement_step proto_step (Statement-F.Statement::Route route)

pub in_proto : (p : ProtoText) → in_statement (statement.Proto p) ≡ []
unfolding statement_step
in_proto p = ap in_statement (sym (statement.rolls-Proto p)) ∙ fold-roll-Statement ItemShape Shapes Shapes Shapes item_step node_step statement_step proto_step (Statement-F.Statement::Proto p)
