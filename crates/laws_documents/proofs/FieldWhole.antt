-- The nodes of a document without instances have the fields that are read.
use Rattle.std.proofs.Common.{◌≡◌, ℕ, List, [], ◌∷◌, ◌++◌, drop, length, Option, Some, None, slice_set, Bool, true, false, map, refl, ap, sym, ◌∙◌, subst}
use Rattle.std.specs.List.{AllByRecursion, fold}
use Rattle.std.specs.Option.{option_map_or}
use Rattle.std.proofs.Math.Seq.{drop-append_seam}
use Rattle.std.proofs.lemmas.List.{append-nil, append_assoc, length-map, map-append, map-set}
use Rattle.x3d_values.specs.Names.{node_type_named}
use Rattle.x3d_values.specs.Tables.{FieldRowView, rows}
use Rattle.x3d_values.specs.declared.node_type.NodeType.{NodeType}
use Rattle.classic_tree.specs.declared.tree.BodyItem.{BodyItem}
use Rattle.classic_tree.specs.declared.tree.NodeText.{NodeText}
use Rattle.classic_tree.specs.declared.tree.NodeText.TheVariants as node_text
use Rattle.classic_tree.specs.declared.tree.ProtoText.{ProtoText}
use Rattle.classic_tree.specs.declared.tree.RouteText.{RouteText}
use Rattle.classic_tree.specs.declared.tree.Statement.{Statement}
use Rattle.classic_tree.specs.declared.tree.Statement.TheVariants as statement_text
use Rattle.proto_flat.specs.declared.fault.ExpandFaultKind.TheVariants.{UnknownNode, UseWithoutDef}
use Rattle.laws_documents.specs.Signatures.{Signature, signatures}
use Rattle.proto_meaning.specs.Names.{Name, Field}
use Rattle.proto_meaning.specs.Flat.{field_with, fields_of}
use Rattle.proto_meaning.proofs.Induction.{Layers, every}
use Rattle.laws_documents.specs.Plain.{Reading, PlainRead, ◌>>=◌, pure, refuse, in_turn, last_closed, Between, ItemReads, flat_node, close_pair, node_step, statement_step, read_item, read_text, read_statement}
use Rattle.laws_documents.specs.Plain as plains
use Rattle.laws_documents.proofs.PlainTexts as texts
use Rattle.laws_documents.specs.Fields.{FieldRead, Got, closes, declares, each, gives, interface_of, node_read, numbering, read_full, read_node, read_on}
use Rattle.laws_documents.specs.Fields as fields
use Rattle.laws_documents.proofs.FieldsParts.{all_declared, read-full, read-node-statement, read-proto, read-route, read-use}
use Rattle.laws_documents.specs.PlainLaws.{FieldsAreRead}
use Rattle.laws_documents.proofs.FieldParts.{ItemIs, ItemReadsOf, NodeIs, NodeReads, declaration_layer, field_layer, given_of, proto_item_layer, read_as, route_item_layer}
use Rattle.laws_documents.proofs.Keeping.{closed, opened}
use Rattle.laws_documents.proofs.Names.{named_same, opened_of}
use Rattle.laws_documents.proofs.Numbers.{Owns, OwnsBy, interface_told, is_script}
use Rattle.laws_documents.proofs.Reading.{Ends, ends_then, ends_weaker}
use Rattle.laws_documents.proofs.ReadWhole.{flat_is_read}

-- ---- all items between braces

pub record ItemsAre (t : NodeType) (is : List BodyItem) (ds : List Field) (b : Between) (r : Reading) (c : Between) (q : Reading) : Type 0 where
  pub more : List Field
  pub known : c.fields ≡ fields_of t ++ more
  pub own : Owns t more
  pub declared : signatures more ≡ signatures ds ++ all_declared is
  pub reads : (rest : List Signature) → each (fields.read_item (numbering (Some t) (signatures more ++ rest))) is (given_of b.filled) (read_as r) ≡ gives (given_of c.filled) (read_as q)

then_read : (t : NodeType) (i : BodyItem) (is : List BodyItem) (ds : List Field) (b c e : Between) (r q p : Reading) (h : ItemIs t i ds b r c q) → ItemsAre t is h.more c q e p → ItemsAre t (i ∷ is) ds b r e p
then_read t i is ds b c e r q p h k =
    record {
      more = k.more;
      known = k.known;
      own = k.own;
      declared = k.declared ∙ ap (λ ss. ss ++ all_declared is) h.declared ∙ append_assoc (signatures ds) (declares i) (all_declared is);
      reads = λ rest.
          let numbers = numbering (Some t) (signatures k.more ++ rest) in
          let same = ap (λ ss. ss ++ rest) k.declared ∙ append_assoc (signatures h.more) (all_declared is) rest in
          ap (λ (g : Got (List FieldRead)). each (fields.read_item numbers) is g.what g.after)
          (ap (λ ss. fields.read_item (numbering (Some t) ss) i (given_of b.filled) (read_as r)) same ∙ h.reads (all_declared is ++ rest)) ∙ k.reads rest;
    }

items_read : (is : List BodyItem) → AllByRecursion ItemReadsOf is → (t : NodeType) (ds : List Field) (b : Between) (r : Reading) → b.fields ≡ fields_of t ++ ds → Owns t ds
    → Ends (ItemsAre t is ds b r) (in_turn (λ (i : ItemReads). i t) (map read_item is) b r)
items_read [] h t ds b r k own = record { more = ds; known = k; own = own; declared = sym (append-nil (signatures ds)); reads = λ rest. refl }
items_read (i ∷ is) h t ds b r k own =
    ends_then (ItemIs t i ds b r) (ItemsAre t (i ∷ is) ds b r) (in_turn (λ (i : ItemReads). i t) (map read_item is)) (read_item i t b r) (h.0 t ds b r k own)
    (λ c q one. ends_weaker (ItemsAre t is one.more c q) (ItemsAre t (i ∷ is) ds b r) (in_turn (λ (i : ItemReads). i t) (map read_item is) c q) (items_read is h.1 t one.more c q one.known one.own)
    (λ e p rest. then_read t i is ds b c e r q p one rest))

-- ---- a node that closes

abbrev row_field : FieldRowView → Field
row_field row = field_with 0 row.access row.field_type row.name

seam : (es : List FieldRowView) (f : FieldRowView → Field) (more : List Field) → drop (length es) (map f es ++ more) ≡ more
seam es f more = ap (λ n. drop n (map f es ++ more)) (sym (length-map es f)) ∙ drop-append_seam (map f es) more

none_owned : (t : NodeType) → Owns t []
none_owned t = by_script (is_script t) where
  by_script : (s : Bool) → OwnsBy s []
  by_script true = tt
  by_script false = refl

module _ (line : ℕ) (name : Option Name) (word : Name) (is : List BodyItem) (t : NodeType) (named_by : node_type_named word ≡ Some t) (r : Reading) where
  abbrev first : Between
  first = record { fields = fields_of t; filled = [] }

  made : (c : Between) (q : Reading) → ItemsAre t is [] first (opened name r) c q
      → read_node (node_text.Full line name word is) (read_as r) ≡ gives (Some (length q.nodes)) (read_as (closed name (length r.pairs) (flat_node line name t c) q))
  made c q h =
      let all = all_declared is in
      let same : signatures h.more ++ [] ≡ all = append-nil (signatures h.more) ∙ h.declared in
      let node = flat_node line name t c in
      read-full line name word is (read_as r)
      ∙ ap (λ o. read_full name o all (λ numbers. each (fields.read_item numbers) is) (read_as r)) named_by
      ∙ ap (λ (x : fields.Reading). closes name (read_as r) (interface_of (Some t) all) (each (fields.read_item (numbering (Some t) all)) is [] x))
      (ap (λ os. record (read_as r) { opened = os }) (sym (map-append opened_of r.pairs (record { name = name; node = None } ∷ []))))
      ∙ ap (λ (g : Got (List FieldRead)). closes name (read_as r) (interface_of (Some t) all) g)
      (ap (λ ss. each (fields.read_item (numbering (Some t) ss)) is [] (read_as (opened name r))) (sym same) ∙ h.reads [])
      ∙ ap (λ ss. closes name (read_as r) ss (gives (given_of c.filled) (read_as q)))
      (ap (λ ss. interface_of (Some t) ss) (sym h.declared) ∙ sym (interface_told t h.more h.own) ∙ ap signatures (sym (ap (drop (length (rows t))) h.known ∙ seam (rows t) row_field h.more)))
      ∙ ap (λ k. shut (signatures node.interface) k (length (map node_read q.nodes))) (length-map r.pairs opened_of)
      ∙ ap (λ k. shut (signatures node.interface) (length r.pairs) k) (length-map q.nodes node_read)
      ∙ ap (λ os. record { what = Some (length q.nodes); after = record { opened = os; closed = map node_read q.nodes ++ node_read node ∷ [] } }) (sym (map-set opened_of q.pairs (length r.pairs) (record { name = name; node = Some (length q.nodes) })))
      ∙ ap (λ ns. record { what = Some (length q.nodes); after = record { opened = (read_as (closed name (length r.pairs) node q)).opened; closed = ns } }) (sym (map-append node_read q.nodes (node ∷ []))) where
        shut : List Signature → ℕ → ℕ → Got (Option ℕ)
        shut ss at k =
            record {
              what = Some k;
              after = record {
                opened = slice_set (map opened_of q.pairs) at (record { name = name; node = Some k });
                closed = map node_read q.nodes ++ record { fields = given_of c.filled; interface = ss } ∷ [];
              };
            }

full_reads : (line : ℕ) (name : Option Name) (word : Name) (is : List BodyItem) → AllByRecursion ItemReadsOf is → (r : Reading) (o : Option NodeType) → node_type_named word ≡ o
    → Ends (NodeIs (node_text.Full line name word is) r) (option_map_or (plains.read_node line name (map read_item is)) o (refuse UnknownNode line) r)
full_reads line name word is h r None e = tt
full_reads line name word is h r (Some t) e =
    let first : Between = record { fields = fields_of t; filled = [] } in
    ends_then (ItemsAre t is [] first (opened name r)) (NodeIs (node_text.Full line name word is) r) (λ b. close_pair name (length r.pairs) (flat_node line name t b))
    (in_turn (λ (i : ItemReads). i t) (map read_item is) first (opened name r)) (items_read is h t [] first (opened name r) (sym (append-nil (fields_of t))) (none_owned t))
    (λ c q k. made line name word is t e r c q k)

full_layer : (line : ℕ) (name : Option Name) (word : Name) (is : List BodyItem) → AllByRecursion ItemReadsOf is → NodeReads (node_text.Full line name word is)
unfolding node_step
full_layer line name word is h r =
    subst (λ (m : PlainRead ℕ). Ends (NodeIs (node_text.Full line name word is) r) (m r)) (sym (texts.read-full line name word is)) (full_reads line name word is h r (node_type_named word) refl)

use_reads : (line : ℕ) (name : Name) (r : Reading) (o : Option ℕ) → last_closed name r.pairs ≡ o → Ends (NodeIs (node_text.Use line name) r) (option_map_or pure o (refuse UseWithoutDef line) r)
use_reads line name r None e = tt
use_reads line name r (Some k) e = read-use line name (read_as r) ∙ ap (λ o. gives o (read_as r)) (named_same name r.pairs ∙ e)

use_layer : (line : ℕ) (name : Name) → NodeReads (node_text.Use line name)
unfolding node_step
use_layer line name r =
    subst (λ (m : PlainRead ℕ). Ends (NodeIs (node_text.Use line name) r) (m r)) (sym (texts.read-use line name)) (use_reads line name r (last_closed name r.pairs) refl)

-- ---- statements

abbrev StatementIs : Statement → Reading → List ℕ → Reading → Type 0
StatementIs s r ks q = fields.read_statement s (read_as r) ≡ read_as q

abbrev StatementReads : Statement → Type 0
StatementReads s = (r : Reading) → Ends (StatementIs s r) (read_statement s r)

node_layer : (n : NodeText) → NodeReads n → StatementReads (statement_text.Node n)
unfolding statement_step
node_layer n h r =
    subst (λ (m : PlainRead (List ℕ)). Ends (StatementIs (statement_text.Node n) r) (m r)) (sym (texts.read-node n))
    (ends_then (NodeIs n r) (StatementIs (statement_text.Node n) r) (λ k. pure (k ∷ [])) (read_text n r) (h r) (λ k q e. read-node-statement n (read_as r) ∙ ap (λ (g : Got (Option ℕ)). g.after) e))

route_layer : (route : RouteText) → StatementReads (statement_text.Route route)
unfolding statement_step
route_layer route r = subst (λ (m : PlainRead (List ℕ)). Ends (StatementIs (statement_text.Route route) r) (m r)) (sym (texts.read-route route)) (read-route route (read_as r))

proto_layer : (p : ProtoText) → StatementReads (statement_text.Proto p)
unfolding statement_step
proto_layer p r = subst (λ (m : PlainRead (List ℕ)). Ends (StatementIs (statement_text.Proto p) r) (m r)) (sym (texts.read-proto p)) (read-proto p (read_as r))

layers : Layers ItemReadsOf NodeReads StatementReads (λ p. Unit {0})
layers = record {
  field = field_layer;
  declaration = declaration_layer;
  item_route = route_item_layer;
  item_proto = λ p h. proto_item_layer p;
  used = use_layer;
  full = full_layer;
  node = node_layer;
  route = route_layer;
  proto = λ p h. proto_layer p;
  prototype = λ p h k. tt;
}

abbrev next_root : PlainRead (List ℕ) → List ℕ → PlainRead (List ℕ)
next_root s roots = s >>= λ ns. pure (roots ++ ns)

abbrev AllIs : List Statement → fields.Reading → List ℕ → Reading → Type 0
AllIs ss x roots q = fold read_on x ss ≡ read_as q

roots_read : (ss : List Statement) → AllByRecursion StatementReads ss → (roots : List ℕ) (r : Reading) → Ends (AllIs ss (read_as r)) (in_turn next_root (map read_statement ss) roots r)
roots_read [] h roots r = refl
roots_read (s ∷ ss) h roots r =
    ends_then (StatementIs s r) (AllIs (s ∷ ss) (read_as r)) (in_turn next_root (map read_statement ss)) (next_root (read_statement s) roots r)
    (ends_then (StatementIs s r) (StatementIs s r) (λ ns. pure (roots ++ ns)) (read_statement s r) (h.0 r) (λ ns q e. e))
    (λ all q e. subst (λ x. Ends (AllIs ss x) (in_turn next_root (map read_statement ss) all q)) (sym e) (roots_read ss h.1 all q))

pub fields_are_read : FieldsAreRead
fields_are_read d f k e =
    let told = flat_is_read _ d f k e (roots_read d.statements (every ItemReadsOf NodeReads StatementReads (λ p. Unit {0}) layers d.statements) [] (record { nodes = []; pairs = []; wires = [] })) in
    ap (λ g. map node_read g.nodes) (sym told.is) ∙ sym (ap (λ (x : fields.Reading). x.closed) told.told)
