-- What is read has the shapes that stand in the tree.
use Rattle.std.proofs.Common.{◌≡◌, ℕ, List, [], ◌∷◌, ◌++◌, map, Option, Some, refl, ap, sym, ◌∙◌, fold}
use Rattle.std.specs.List.{AllByRecursion, flat_map}
use Rattle.std.proofs.lemmas.List.{append-nil, append_assoc, map-append}
use Rattle.x3d_values.specs.Names.{node_type_named}
use Rattle.classic_tree.specs.declared.tree.BodyItem.{BodyItem}
use Rattle.classic_tree.specs.declared.tree.BodyItem.TheVariants as item
use Rattle.classic_tree.specs.declared.tree.Declaration.{Declaration}
use Rattle.classic_tree.specs.declared.tree.Document.{Document}
use Rattle.classic_tree.specs.declared.tree.Given.{Given}
use Rattle.classic_tree.specs.declared.tree.Given.TheVariants as given
use Rattle.classic_tree.specs.declared.tree.NodeText.{NodeText}
use Rattle.classic_tree.specs.declared.tree.NodeText.TheVariants as node
use Rattle.classic_tree.specs.declared.tree.ProtoText.{ProtoText}
use Rattle.classic_tree.specs.declared.tree.RawValue.{RawValue}
use Rattle.classic_tree.specs.declared.tree.RawValue.TheVariants as value
use Rattle.classic_tree.specs.declared.tree.RouteText.{RouteText}
use Rattle.classic_tree.specs.declared.tree.Statement.{Statement}
use Rattle.classic_tree.specs.declared.tree.Statement.TheVariants as statement
use Rattle.proto_flat.specs.declared.flat.FlatField.{FlatField}
use Rattle.proto_flat.specs.declared.flat.FlatNode.{FlatNode}
use Rattle.laws_documents.specs.Signatures.{Signature, signatures}
use Rattle.laws_documents.specs.Uses.{some}
use Rattle.laws_documents.proofs.Trees.{Layers, OfGiven, OfValue, every}
use Rattle.laws_documents.specs.Fields.{FieldRead, Got, NodeRead, Numbering, Reading, as_read, declares, each, field_read, interface_of, node_read, nothing_read, numbering, opens, read, read_full, read_given, read_item, read_node, read_on, read_one, read_statement, read_value}
use Rattle.laws_documents.specs.Shapes.{FieldShape, ItemShape, NodeShape, Shapes, blank, field_shape, given_shape, in_given, in_node, in_statement, in_value, item_shape, no_node, node_of, node_shape, shapes}
use Rattle.laws_documents.proofs.FieldsParts.{all_declared, declares-declaration, declares-field, declares-proto, declares-route, read-declaration, read-field, read-full, read-item-proto, read-item-route, read-node-statement, read-proto, read-route, read-use}
use Rattle.laws_documents.proofs.ShapeParts.{all_fields, declared_shapes, in_full, in_node_statement, in_proto, in_route, in_use, insides, shape-declaration, shape-field, shape-item-proto, shape-item-route}

abbrev pub given_as : FieldRead → FieldShape
given_as field = record { line = field.line; number = field.number; value = blank field.value }

abbrev pub closed_as : NodeRead → NodeShape
closed_as node = record { fields = map given_as node.fields; interface = node.interface }

abbrev closed : Reading → Shapes
closed r = map closed_as r.closed

-- these braces close
abbrev Adds : Reading → Reading → Shapes → Type 0
Adds r s more = closed s ≡ closed r ++ more

adds_none : (r : Reading) → Adds r r []
adds_none r = sym (append-nil (closed r))

adds_then : (r s u : Reading) (xs ys : Shapes) → Adds r s xs → Adds s u ys → Adds r u (xs ++ ys)
adds_then r s u xs ys h k = k ∙ ap (λ zs. zs ++ ys) h ∙ append_assoc (closed r) xs ys

abbrev NodeIs : NodeText → Type 0
NodeIs n = (r : Reading) → Adds r (read_node n r).after (in_node n)

-- ---- values

abbrev unnumbered : List (Option ℕ) → List (Unit {0})
unnumbered ns = map no_node ns

nodes_are : (nodes : List NodeText) → AllByRecursion NodeIs nodes → (b : List (Option ℕ)) (r : Reading) →
    Adds r (each (read_one read_node) nodes b r).after (flat_map in_node nodes) × (unnumbered (each (read_one read_node) nodes b r).what ≡ unnumbered b ++ map no_node nodes)
nodes_are [] h b r = (adds_none r, sym (append-nil (unnumbered b)))
nodes_are (n ∷ nodes) h b r =
    let one = read_one read_node n b r in
    let rest = nodes_are nodes h.1 one.what one.after in (
      adds_then r one.after (each (read_one read_node) nodes one.what one.after).after (in_node n) (flat_map in_node nodes) (h.0 r) rest.0,
      rest.1 ∙ ap (λ us. us ++ map no_node nodes) (map-append no_node b ((read_node n r).what ∷ [])) ∙ append_assoc (unnumbered b) (tt ∷ []) (map no_node nodes),
    )

value_is : (v : RawValue NodeText) → OfValue NodeIs v → (r : Reading) → Adds r (read_value read_node v r).after (in_value in_node v) × (blank (read_value read_node v r).what ≡ blank v)
value_is value.Null h r = (adds_none r, refl)
value_is (value.Truth truth) h r = (adds_none r, refl)
value_is (value.String text) h r = (adds_none r, refl)
value_is (value.Numbers numbers) h r = (adds_none r, refl)
value_is (value.Node n) h r = (h r, refl)
value_is value.EmptyList h r = (adds_none r, refl)
value_is (value.TruthList truths) h r = (adds_none r, refl)
value_is (value.StringList texts) h r = (adds_none r, refl)
value_is (value.NumberList numbers) h r = (adds_none r, refl)
value_is (value.NodeList nodes) h r = let all = nodes_are nodes h [] r in (all.0, ap (λ (us : List (Unit {0})). value.NodeList us) all.1)

-- ---- items

abbrev given_all : List FieldRead → List FieldShape
given_all fields = map given_as fields

-- these braces close, and these fields are given
abbrev Gives : List FieldRead → Reading → Got (List FieldRead) → Shapes → List FieldShape → Type 0
Gives b r g more fields = Adds r g.after more × (given_all g.what ≡ given_all b ++ fields)

given_is : (line : ℕ) (number : Option ℕ) (g : Given NodeText) → OfGiven NodeIs g → (b : List FieldRead) (r : Reading) →
    Gives b r (read_given read_node line number g b r) (in_given in_node g) (given_shape line number g)
given_is line number given.Nothing h b r = (adds_none r, sym (append-nil (given_all b)))
given_is line number (given.Value v) h b r =
    let x = read_value read_node v r in
    let is = value_is v h r in (
      is.0,
      map-append given_as b (record { line = line; number = number; value = x.what } ∷ [])
          ∙ ap (λ (z : RawValue (Unit {0})). given_all b ++ record { line = line; number = number; value = z } ∷ []) is.1,
    )
given_is line number (given.Is name) h b r = (adds_none r, sym (append-nil (given_all b)))

abbrev ItemGives : BodyItem → Type 0
ItemGives i = (numbers : Numbering) (b : List FieldRead) (r : Reading) → Gives b r (read_item numbers i b r) (item_shape i).inside ((item_shape i).fields numbers)

abbrev ItemIs : BodyItem → Type 0
ItemIs i = (declares i ≡ (item_shape i).declares) × ItemGives i

by_parts : (b : List FieldRead) (r : Reading) (g p : Got (List FieldRead)) (more xs : Shapes) (fields fs : List FieldShape) → g ≡ p → more ≡ xs → fields ≡ fs → Gives b r p xs fs → Gives b r g more fields
by_parts b r g p more xs fields fs e k l h = (
  ap (λ (q : Got (List FieldRead)). closed q.after) e ∙ h.0 ∙ ap (λ ys. closed r ++ ys) (sym k),
  ap (λ (q : Got (List FieldRead)). given_all q.what) e ∙ h.1 ∙ ap (λ ys. given_all b ++ ys) (sym l),
)

field_layer : (line : ℕ) (name : List ℕ) (g : Given NodeText) → OfGiven NodeIs g → ItemIs (item.Field line name g)
field_layer line name g h =
    let shape = shape-field line name g in (
      declares-field line name g ∙ sym shape.has_declared,
      λ numbers b r.
          by_parts b r (read_item numbers (item.Field line name g) b r) (read_given read_node line (numbers name) g b r) (item_shape (item.Field line name g)).inside (in_given in_node g)
          ((item_shape (item.Field line name g)).fields numbers) (given_shape line (numbers name) g) (read-field numbers b r line name g) shape.has_inside (shape.has_fields numbers)
          (given_is line (numbers name) g h b r),
    )

declaration_layer : (d : Declaration NodeText) → OfGiven NodeIs d.given → ItemIs (item.Declaration d)
declaration_layer d h =
    let shape = shape-declaration d in (
      declares-declaration d ∙ sym shape.has_declared,
      λ numbers b r.
          by_parts b r (read_item numbers (item.Declaration d) b r) (read_given read_node d.line (numbers d.name) d.given b r) (item_shape (item.Declaration d)).inside (in_given in_node d.given)
          ((item_shape (item.Declaration d)).fields numbers) (given_shape d.line (numbers d.name) d.given) (read-declaration numbers b r d) shape.has_inside (shape.has_fields numbers)
          (given_is d.line (numbers d.name) d.given h b r),
    )

nothing_given : (b : List FieldRead) (r : Reading) → Gives b r (record { what = b; after = r }) [] []
nothing_given b r = (adds_none r, sym (append-nil (given_all b)))

route_item_layer : (route : RouteText) → ItemIs (item.Route route)
route_item_layer route =
    let e = shape-item-route route in (
      declares-route route ∙ sym (ap (λ (s : ItemShape). s.declares) e),
      λ numbers b r.
          by_parts b r (read_item numbers (item.Route route) b r) (record { what = b; after = r }) (item_shape (item.Route route)).inside [] ((item_shape (item.Route route)).fields numbers) []
          (read-item-route numbers b r route) (ap (λ (s : ItemShape). s.inside) e) (ap (λ (s : ItemShape). s.fields numbers) e) (nothing_given b r),
    )

proto_item_layer : (p : ProtoText) → ItemIs (item.Proto p)
proto_item_layer p =
    let e = shape-item-proto p in (
      declares-proto p ∙ sym (ap (λ (s : ItemShape). s.declares) e),
      λ numbers b r.
          by_parts b r (read_item numbers (item.Proto p) b r) (record { what = b; after = r }) (item_shape (item.Proto p)).inside [] ((item_shape (item.Proto p)).fields numbers) []
          (read-item-proto numbers b r p) (ap (λ (s : ItemShape). s.inside) e) (ap (λ (s : ItemShape). s.fields numbers) e) (nothing_given b r),
    )

items_are : (numbers : Numbering) (items : List BodyItem) → AllByRecursion ItemIs items → (b : List FieldRead) (r : Reading) → Gives b r (each (read_item numbers) items b r) (insides items) (all_fields items numbers)
items_are numbers [] h b r = nothing_given b r
items_are numbers (i ∷ items) h b r =
    let one = read_item numbers i b r in
    let first = h.0.1 numbers b r in
    let rest = items_are numbers items h.1 one.what one.after in (
      adds_then r one.after (each (read_item numbers) items one.what one.after).after (item_shape i).inside (insides items) first.0 rest.0,
      rest.1 ∙ ap (λ fs. fs ++ all_fields items numbers) first.1 ∙ append_assoc (given_all b) ((item_shape i).fields numbers) (all_fields items numbers),
    )

all_same : (items : List BodyItem) → AllByRecursion ItemIs items → all_declared items ≡ declared_shapes items
all_same [] h = refl
all_same (i ∷ items) h = ap (λ ss. ss ++ all_declared items) h.0.0 ∙ ap (λ ss. (item_shape i).declares ++ ss) (all_same items h.1)

-- ---- nodes

used_layer : (line : ℕ) (name : List ℕ) → NodeIs (node.Use line name)
used_layer line name r = ap (λ (g : Got (Option ℕ)). closed g.after) (read-use line name r) ∙ adds_none r ∙ ap (λ ys. closed r ++ ys) (sym (in_use line name))

full_is : (name : Option (List ℕ)) (word : List ℕ) (items : List BodyItem) (ss : List Signature) → AllByRecursion ItemIs items → (r : Reading) →
    Adds r (read_full name (node_type_named word) ss (λ numbers. each (read_item numbers) items) r).after (insides items ++ node_of word ss (all_fields items) ∷ [])
full_is name word items ss h r =
    let t = node_type_named word in
    let numbers = numbering t ss in
    let g = each (read_item numbers) items [] (opens name r) in
    let is = items_are numbers items h [] (opens name r) in
    map-append closed_as g.after.closed (record { fields = g.what; interface = interface_of t ss } ∷ [])
    ∙ ap (λ (fs : List FieldShape). closed g.after ++ record { fields = fs; interface = interface_of t ss } ∷ []) is.1
    ∙ ap (λ zs. zs ++ node_of word ss (all_fields items) ∷ []) is.0
    ∙ append_assoc (closed r) (insides items) (node_of word ss (all_fields items) ∷ [])

full_layer : (line : ℕ) (name : Option (List ℕ)) (word : List ℕ) (items : List BodyItem) → AllByRecursion ItemIs items → NodeIs (node.Full line name word items)
full_layer line name word items h r =
    ap (λ (g : Got (Option ℕ)). closed g.after) (read-full line name word items r)
    ∙ full_is name word items (all_declared items) h r
    ∙ ap (λ ss. closed r ++ (insides items ++ node_of word ss (all_fields items) ∷ [])) (all_same items h)
    ∙ ap (λ ys. closed r ++ ys) (sym (in_full line name word items))

-- ---- statements

abbrev StatementIs : Statement → Type 0
StatementIs s = (r : Reading) → Adds r (read_statement s r) (in_statement s)

node_layer : (n : NodeText) → NodeIs n → StatementIs (statement.Node n)
node_layer n h r = ap closed (read-node-statement n r) ∙ h r ∙ ap (λ ys. closed r ++ ys) (sym (in_node_statement n))

route_layer : (route : RouteText) → StatementIs (statement.Route route)
route_layer route r = ap closed (read-route route r) ∙ adds_none r ∙ ap (λ ys. closed r ++ ys) (sym (in_route route))

proto_layer : (p : ProtoText) → Unit {0} → StatementIs (statement.Proto p)
proto_layer p h r = ap closed (read-proto p r) ∙ adds_none r ∙ ap (λ ys. closed r ++ ys) (sym (in_proto p))

layers : Layers ItemIs NodeIs StatementIs (λ p. Unit {0})
layers = record {
  field = field_layer;
  declaration = declaration_layer;
  item_route = route_item_layer;
  item_proto = λ p h. proto_item_layer p;
  used = used_layer;
  full = full_layer;
  node = node_layer;
  route = route_layer;
  proto = proto_layer;
  prototype = λ p h k. tt;
}

statements_are : (ss : List Statement) → AllByRecursion StatementIs ss → (r : Reading) → Adds r (fold read_on r ss) (flat_map in_statement ss)
statements_are [] h r = adds_none r
statements_are (s ∷ ss) h r = adds_then r (read_statement s r) (fold read_on (read_statement s r) ss) (in_statement s) (flat_map in_statement ss) (h.0 r) (statements_are ss h.1 (read_statement s r))

-- ---- a document, and the nodes that it is

blank_nodes : (ns : List ℕ) → map no_node (map some ns) ≡ map no_node ns
blank_nodes [] = refl
blank_nodes (n ∷ ns) = ap (λ (us : List (Unit {0})). tt ∷ us) (blank_nodes ns)

blank_read : (v : RawValue ℕ) → blank (as_read v) ≡ blank v
blank_read value.Null = refl
blank_read (value.Truth truth) = refl
blank_read (value.String text) = refl
blank_read (value.Numbers numbers) = refl
blank_read (value.Node n) = refl
blank_read value.EmptyList = refl
blank_read (value.TruthList truths) = refl
blank_read (value.StringList texts) = refl
blank_read (value.NumberList numbers) = refl
blank_read (value.NodeList nodes) = ap (λ (us : List (Unit {0})). value.NodeList us) (blank_nodes nodes)

fields_as : (fields : List FlatField) → given_all (map field_read fields) ≡ map field_shape fields
fields_as [] = refl
fields_as (f ∷ fields) =
    ap (λ (v : RawValue (Unit {0})). record { line = f.line; number = Some f.number; value = v } ∷ given_all (map field_read fields)) (blank_read f.value)
    ∙ ap (λ fs. field_shape f ∷ fs) (fields_as fields)

pub nodes_as : (nodes : List FlatNode) → map closed_as (map node_read nodes) ≡ map node_shape nodes
nodes_as [] = refl
nodes_as (n ∷ nodes) =
    ap (λ (fs : List FieldShape). record { fields = fs; interface = signatures n.interface } ∷ map closed_as (map node_read nodes)) (fields_as n.fields)
    ∙ ap (λ ns. node_shape n ∷ ns) (nodes_as nodes)

pub texts_have_shapes : (d : Document) → map closed_as (read d).closed ≡ shapes d
texts_have_shapes d = statements_are d.statements (every ItemIs NodeIs StatementIs (λ p. Unit {0}) layers d.statements) nothing_read
