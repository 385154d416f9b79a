-- What a document without PROTO stands for is read plainly.
use Rattle.std.proofs.Common.{◌≡◌, ℕ, Bool, true, false, if◌then◌else◌, List, [], ◌∷◌, ◌++◌, length, Option, Some, None, option_map, Result, Ok, Err, map, refl, ap, sym, ◌∙◌, subst}
use Rattle.std.specs.Prelude.{◌&&◌, is_some}
use Rattle.std.specs.List.{AllByRecursion, list_all}
use Rattle.std.specs.Option.{option_or, option_map_or}
use Rattle.std.proofs.lemmas.List.{map-append, length-map, map-set}
use denote.Enum.Bare.{sameb}
use Rattle.x3d_values.specs.Names.{node_type_named}
use Rattle.x3d_values.specs.contracts.node_type.NodeType as node_types
use Rattle.x3d_values.specs.declared.node_type.NodeType.{NodeType}
use Rattle.x3d_values.specs.declared.node_type.NodeType.TheVariants.{Script}
use Rattle.classic_tree.specs.declared.tree.BodyItem.{BodyItem}
use Rattle.classic_tree.specs.declared.tree.BodyItem.TheOpen.{BodyItem-F, NodeText-F, Statement-F}
use Rattle.classic_tree.specs.declared.tree.BodyItem.TheVariants as item_text
use Rattle.classic_tree.specs.declared.tree.Declaration.{Declaration}
use Rattle.classic_tree.specs.declared.tree.Document.{Document}
use Rattle.classic_tree.specs.declared.tree.Given.{Given}
use Rattle.classic_tree.specs.declared.tree.Given.TheVariants as given
use Rattle.classic_tree.specs.declared.tree.NodeText.{NodeText}
use Rattle.classic_tree.specs.declared.tree.NodeText.TheVariants as node_text
use Rattle.classic_tree.specs.declared.tree.ProtoText.{ProtoText}
use Rattle.classic_tree.specs.declared.tree.RawValue.TheVariants as value
use Rattle.classic_tree.specs.declared.tree.RouteText.{RouteText}
use Rattle.classic_tree.specs.declared.tree.Statement.{Statement}
use Rattle.classic_tree.specs.declared.tree.Statement.TheVariants as statement_text
use Rattle.classic_tree.proofs.Mapped.{given_mapped, declaration_mapped}
use Rattle.proto_flat.specs.declared.fault.ExpandFault.{ExpandFault}
use Rattle.proto_flat.specs.declared.fault.ExpandFaultKind.TheVariants.{UnknownField, UnknownNode, UseWithoutDef, FieldTwice}
use Rattle.proto_flat.specs.declared.flat.Flat.{Flat}
use Rattle.proto_meaning.specs.Limits.{Met, ANode, AField, AnItem, Outcome, item_count, behind, follow, and_then, limited}
use Rattle.proto_meaning.specs.Names.{Name, Field, Braces}
use Rattle.proto_meaning.specs.Sight.{OfType}
use Rattle.proto_meaning.specs.Flat.{Walk, Does, Node, Item, Stated, Inside, put_in, give, numbered_from, is_filled, field, fields_of, close_node, flat_node, full_node, note_route, header_of, item_step, node_step, statement_step, flat, comes}
use Rattle.proto_meaning.specs.Flat as walk
use Rattle.proto_meaning.specs.Flat.{item as item_part, node as node_part, statement as stated}
use Rattle.proto_meaning.proofs.Trees.{item-field, item-declaration, item-route, node-use, node-full, statement-node, statement-route}
use Rattle.proto_meaning.proofs.Induction.{OfGiven, Layers, every}
use Rattle.laws_documents.specs.Plain.{Reading, PlainRead, ◌>>=◌, pure, refuse, meet, in_turn, last_closed, wire_route, route_of, read_value, Between, ItemReads, close_pair, read_node, read_item, read_text, read_statement, read_all, is_plain_item, is_plain_node, is_plain_statement, plain_node_step, PlainDocumentsAreThemselves}
use Rattle.laws_documents.specs.Steps.{is_true, all_in, plain_item_step, plain_statement_step}
use Rattle.laws_documents.specs.Plain as plains
use Rattle.laws_documents.proofs.Maps.{mapped, came, maps_then, maps_if, maps_option}
use Rattle.laws_documents.proofs.PlainTexts as texts
use Rattle.laws_documents.proofs.PlainRoutes.{same, braces_of, walk_of, inside_of, Walks, used_same, route_walks, all_wired}

-- ---- lists and values

abbrev Only : Bool → Type 0 → Type 0
Only false G = G
Only true G = Unit {0}

never : {G : Type 0} → false ≡ true → G
never {G} e = subst (λ b. Only b G) (sym e) tt

both_true : (a b : Bool) → a && b ≡ true → (a ≡ true) × (b ≡ true)
both_true true b e = (refl, e)
both_true false b e = never e

-- a part of a text and how it is read
abbrev OfNode : NodeText → Type 0
OfNode n = is_plain_node n ≡ true → Walks same (read_text n) (node_part n).does

abbrev OfItem : BodyItem → Type 0
OfItem i = is_plain_item i ≡ true → (at : ℕ) (t : NodeType) (b : Between) → Walks (inside_of at t) (read_item i t b) ((item_part i).does (inside_of at t b))

abbrev OfStatement : Statement → Type 0
OfStatement s = is_plain_statement s ≡ true → Walks same (read_statement s) (stated s).1.does

abbrev OfPrototype : ProtoText → Type 0
OfPrototype p = Unit {0}

abbrev next_number : PlainRead ℕ → List ℕ → PlainRead (List ℕ)
next_number node ns = node >>= λ n. pure (ns ++ n ∷ [])

abbrev put_next : Node → List ℕ → Does (List ℕ)
put_next node ns = λ w. and_then (node.does w) (λ p. walk.pure (ns ++ p.0 ∷ []) p.1)

nodes_walk : (ns : List NodeText) → AllByRecursion OfNode ns → list_all is_true (map is_plain_node ns) ≡ true → (ks : List ℕ) → Walks same (in_turn next_number (map read_text ns) ks) (walk.through put_next (map node_part ns) ks)
nodes_walk [] h true_all ks r = refl
nodes_walk (n ∷ ns) h true_all ks r =
    let both = both_true (is_plain_node n) (list_all is_true (map is_plain_node ns)) true_all in
    maps_then walk_of same same (next_number (read_text n) ks) (put_next (node_part n) ks) (in_turn next_number (map read_text ns)) (walk.through put_next (map node_part ns))
    (maps_then walk_of same same (read_text n) (node_part n).does (λ k. pure (ks ++ k ∷ [])) (λ k. walk.pure (ks ++ k ∷ [])) (h.0 both.0) (λ k x. refl)) (λ ls. nodes_walk ns h.1 both.1 ls) r

-- what a field is given, and how it is read
abbrev GivenReads : Given (PlainRead ℕ) → Given Node → Type 0
GivenReads given.Nothing given.Nothing = Unit {0}
GivenReads (given.Is a) (given.Is b) = Unit {0}
GivenReads (given.Value v) (given.Value u) = (item_count u ≡ item_count v) × Walks same (read_value v) (put_in u)
GivenReads _ _ = ⊥

lengths : {X Y Z : Type 0} (f : X → Y) (g : X → Z) (xs : List X) → length (map f xs) ≡ length (map g xs)
lengths f g xs = length-map xs f ∙ sym (length-map xs g)

given_reads : (g : Given NodeText) → OfGiven OfNode g → all_in (given_mapped is_plain_node g) ≡ true → GivenReads (given_mapped read_text g) (given_mapped node_part g)
given_reads given.Nothing h e = tt
given_reads (given.Is name) h e = tt
given_reads (given.Value value.Null) h e = (refl, λ r. refl)
given_reads (given.Value (value.Truth truth)) h e = (refl, λ r. refl)
given_reads (given.Value (value.String text)) h e = (refl, λ r. refl)
given_reads (given.Value (value.Numbers numbers)) h e = (refl, λ r. refl)
given_reads (given.Value (value.Node n)) h e = (refl, maps_then walk_of same same (read_text n) (node_part n).does (λ k. pure (value.Node k)) (λ k. walk.pure (value.Node k)) (h e) (λ k x. refl))
given_reads (given.Value value.EmptyList) h e = (refl, λ r. refl)
given_reads (given.Value (value.TruthList truths)) h e = (refl, λ r. refl)
given_reads (given.Value (value.StringList texts)) h e = (refl, λ r. refl)
given_reads (given.Value (value.NumberList numbers)) h e = (refl, λ r. refl)
given_reads (given.Value (value.NodeList ns)) h e = (
  lengths node_part read_text ns,
  maps_then walk_of same same (in_turn next_number (map read_text ns) []) (walk.through put_next (map node_part ns) []) (λ ks. pure (value.NodeList ks)) (λ ks. walk.pure (value.NodeList ks)) (nodes_walk ns h e []) (λ ks x. refl),
)

-- ---- fields

refuse_given : (line : ℕ) (f : ℕ × Field) (twice : Bool) (at : ℕ) (t : NodeType) (b : Between) (m : PlainRead Between) (n : Does Inside) → Walks (inside_of at t) m n → Walks (inside_of at t) (if twice then refuse FieldTwice line else m) (if twice then walk.refuse FieldTwice line else n)
refuse_given line f twice at t b m n h = maps_if walk_of (inside_of at t) twice (refuse FieldTwice line) m (walk.refuse FieldTwice line) n (λ x. refl) h

give_walks : (line : ℕ) (f : ℕ × Field) (twice : Bool) (g : Given (PlainRead ℕ)) (h : Given Node) (at : ℕ) (t : NodeType) (b : Between) → GivenReads g h → Walks (inside_of at t) (plains.give line f twice g b) (give line f twice h (inside_of at t b))
give_walks line f twice given.Nothing given.Nothing at t b k = refuse_given line f twice at t b (meet (AField f.0 0) >>= λ _. pure (plains.fill line f b None)) (λ w. and_then (walk.meet (AField f.0 0) w) (λ p. walk.pure (walk.fill line f (inside_of at t b) None) p.1)) (λ x. refl)
give_walks line f twice given.Nothing (given.Is a) at t b k = absurd k
give_walks line f twice given.Nothing (given.Value u) at t b k = absurd k
give_walks line f twice (given.Is a) given.Nothing at t b k = absurd k
give_walks line f twice (given.Is a) (given.Is c) at t b k = λ x. refl
give_walks line f twice (given.Is a) (given.Value u) at t b k = absurd k
give_walks line f twice (given.Value v) given.Nothing at t b k = absurd k
give_walks line f twice (given.Value v) (given.Is a) at t b k = absurd k
give_walks line f twice (given.Value v) (given.Value u) at t b k =
    refuse_given line f twice at t b (meet (AField f.0 (item_count v)) >>= λ _. read_value v >>= λ r. pure (plains.fill line f b (Some r))) (walk.give_value line f (inside_of at t b) u)
    (λ x. ap (λ n. behind (AField f.0 n ∷ []) (and_then (put_in u (walk_of x)) (λ p. walk.pure (walk.fill line f (inside_of at t b) (Some p.0)) p.1))) k.0
    ∙ ap (behind (AField f.0 (item_count v) ∷ [])) (maps_then walk_of same (inside_of at t) (read_value v) (put_in u) (λ r. pure (plains.fill line f b (Some r))) (λ r. walk.pure (walk.fill line f (inside_of at t b) (Some r))) k.1 (λ r y. refl) x))

-- ---- items

item_by : (at : ℕ) (t : NodeType) (b : Between) (l m : ItemReads) (n o : Item) → l ≡ m → n ≡ o → Walks (inside_of at t) (m t b) (o.does (inside_of at t b)) → Walks (inside_of at t) (l t b) (n.does (inside_of at t b))
item_by at t b l m n o e f h = subst (λ (x : ItemReads). Walks (inside_of at t) (x t b) (n.does (inside_of at t b))) (sym e) (subst (λ (x : Item). Walks (inside_of at t) (m t b) (x.does (inside_of at t b))) (sym f) h)

field_walks : (line : ℕ) (name : Name) (g : Given (PlainRead ℕ)) (h : Given Node) → GivenReads g h → (at : ℕ) (t : NodeType) (b : Between)
    → Walks (inside_of at t) (plains.item_step (BodyItem-F.Field line name g) t b) ((item_step (BodyItem-F.Field line name h)).does (inside_of at t b))
unfolding plains.item_step item_step
field_walks line name g h k at t b =
    maps_option walk_of (inside_of at t) (numbered_from 0 name b.fields) (λ f. plains.give line f (plains.is_filled name b) g b) (λ f. give line f (is_filled name (inside_of at t b)) h (inside_of at t b)) (refuse UnknownField line) (walk.refuse UnknownField line)
    (λ f. give_walks line f (plains.is_filled name b) g h at t b k) (λ x. refl)

declaration_walks : (d : Declaration NodeText) → GivenReads (given_mapped read_text d.given) (given_mapped node_part d.given) → (at : ℕ) (t : NodeType) (b : Between)
    → Walks (inside_of at t) (plains.item_step (BodyItem-F.Declaration (declaration_mapped read_text d)) t b) ((item_step (BodyItem-F.Declaration (declaration_mapped node_part d))).does (inside_of at t b))
unfolding plains.item_step item_step
declaration_walks d k at t b =
    maps_if walk_of (inside_of at t) (sameb node_types.the_type t Script)
    (plains.give d.line (length b.fields, field d) (is_some (numbered_from 0 d.name b.fields)) (given_mapped read_text d.given) (record b { fields = b.fields ++ field d ∷ [] })) (refuse UnknownField d.line)
    (give d.line (length b.fields, field d) (is_some (numbered_from 0 d.name b.fields)) (given_mapped node_part d.given) (inside_of at t (record b { fields = b.fields ++ field d ∷ [] }))) (walk.refuse UnknownField d.line)
    (give_walks d.line (length b.fields, field d) (is_some (numbered_from 0 d.name b.fields)) (given_mapped read_text d.given) (given_mapped node_part d.given) at t (record b { fields = b.fields ++ field d ∷ [] }) k) (λ x. refl)

route_item_walks : (route : RouteText) (at : ℕ) (t : NodeType) (b : Between) → Walks (inside_of at t) (plains.item_step (BodyItem-F.BodyItem::Route route) t b) ((item_step (BodyItem-F.BodyItem::Route route)).does (inside_of at t b))
unfolding plains.item_step item_step
route_item_walks route at t b = maps_then walk_of same (inside_of at t) (wire_route route) (note_route route) (λ _. pure b) (λ _. walk.pure (inside_of at t b)) (route_walks route) (λ _ x. refl)

plain_field : (line : ℕ) (name : Name) (g : Given NodeText) → is_plain_item (item_text.Field line name g) ≡ true → all_in (given_mapped is_plain_node g) ≡ true
unfolding plain_item_step
plain_field line name g e = sym (texts.plain-field line name g) ∙ e

plain_declaration : (d : Declaration NodeText) → is_plain_item (item_text.Declaration d) ≡ true → all_in (given_mapped is_plain_node d.given) ≡ true
unfolding plain_item_step
plain_declaration d e = sym (texts.plain-declaration d) ∙ e

plain_no_proto : (p : ProtoText) → is_plain_item (item_text.Proto p) ≡ true → false ≡ true
unfolding plain_item_step
plain_no_proto p e = sym (texts.plain-item-proto p) ∙ e

plain_items : (line : ℕ) (name : Option Name) (word : Name) (is : List BodyItem) → is_plain_node (node_text.Full line name word is) ≡ true → list_all is_true (map is_plain_item is) ≡ true
unfolding plain_node_step
plain_items line name word is e = sym (texts.plain-full line name word is) ∙ e

plain_in_statement : (n : NodeText) → is_plain_statement (statement_text.Node n) ≡ true → is_plain_node n ≡ true
unfolding plain_statement_step
plain_in_statement n e = sym (texts.plain-node n) ∙ e

plain_no_statement : (p : ProtoText) → is_plain_statement (statement_text.Proto p) ≡ true → false ≡ true
unfolding plain_statement_step
plain_no_statement p e = sym (texts.plain-proto p) ∙ e

-- ---- nodes

items_walk : (is : List BodyItem) → AllByRecursion OfItem is → list_all is_true (map is_plain_item is) ≡ true → (at : ℕ) (t : NodeType) (b : Between)
    → Walks (inside_of at t) (in_turn (λ (i : ItemReads). i t) (map read_item is) b) (walk.through (λ (i : Item). i.does) (map item_part is) (inside_of at t b))
items_walk [] h e at t b r = refl
items_walk (i ∷ is) h e at t b r =
    let both = both_true (is_plain_item i) (list_all is_true (map is_plain_item is)) e in
    maps_then walk_of (inside_of at t) (inside_of at t) (read_item i t b) ((item_part i).does (inside_of at t b)) (in_turn (λ (i : ItemReads). i t) (map read_item is)) (walk.through (λ (i : Item). i.does) (map item_part is))
    (h.0 both.0 at t b) (λ c. items_walk is h.1 both.1 at t c) r

close_walks : (line : ℕ) (name : Option Name) (at : ℕ) (t : NodeType) (b : Between) → Walks same (close_pair name at (plains.flat_node line name t b)) (close_node name at (flat_node line name t (inside_of at t b)))
close_walks line name at t b r = ap closed (sym (map-set braces_of r.pairs at (record { name = name; node = Some (length r.nodes) }))) where
  closed : List Braces → Outcome (ℕ × Walk)
  closed all = record {
    met = [];
    comes = Ok (
      length r.nodes,
      record (walk_of r) {
        put = record { nodes = r.nodes ++ plains.flat_node line name t b ∷ []; helpers = [] };
        scope = record (walk_of r).scope { braces = all };
      },
    );
  }

abbrev opened : Option Name → Reading → Reading
opened name r = record r { pairs = r.pairs ++ record { name = name; node = None } ∷ [] }

abbrev between : NodeType → Between
between t = record { fields = fields_of t; filled = [] }

full_walks : (line : ℕ) (name : Option Name) (is : List BodyItem) → AllByRecursion OfItem is → list_all is_true (map is_plain_item is) ≡ true → (t : NodeType) → Walks same (read_node line name (map read_item is) t) (full_node line name (map item_part is) (Some (OfType t)))
full_walks line name is h e t r =
    ap (λ at. inner at (map braces_of r.pairs ++ braces_of (record { name = name; node = None }) ∷ [])) (length-map r.pairs braces_of)
    ∙ ap (inner (length r.pairs)) (sym (map-append braces_of r.pairs (record { name = name; node = None } ∷ [])))
    ∙ ap (behind (ANode ∷ []))
    (maps_then walk_of (inside_of (length r.pairs) t) same (in_turn (λ (i : ItemReads). i t) (map read_item is) (between t)) (walk.through (λ (i : Item). i.does) (map item_part is) (inside_of (length r.pairs) t (between t)))
    (λ b. close_pair name (length r.pairs) (plains.flat_node line name t b)) (λ i. close_node name i.at (flat_node line name t i))
    (items_walk is h e (length r.pairs) t (between t)) (λ b. close_walks line name (length r.pairs) t b) (opened name r)) where
      inner : ℕ → List Braces → Outcome (ℕ × Walk)
      inner at all =
          behind (ANode ∷ [])
          (and_then (walk.through (λ (i : Item). i.does) (map item_part is) (inside_of at t (between t)) (record (walk_of r) { scope = record (walk_of r).scope { braces = all } }))
          (λ p. close_node name p.0.at (flat_node line name t p.0) p.1))

word_walks : (line : ℕ) (name : Option Name) (word : Name) (is : List BodyItem) → AllByRecursion OfItem is → list_all is_true (map is_plain_item is) ≡ true → (t : Option NodeType)
    → Walks same (option_map_or (read_node line name (map read_item is)) t (refuse UnknownNode line)) (λ w. full_node line name (map item_part is) (option_or (option_map OfType t) None) w)
word_walks line name word is h e None r = refl
word_walks line name word is h e (Some t) r = full_walks line name is h e t r

node_by : (l m : PlainRead ℕ) (n o : Node) → l ≡ m → n ≡ o → Walks same m o.does → Walks same l n.does
node_by l m n o e f h = subst (λ (x : PlainRead ℕ). Walks same x n.does) (sym e) (subst (λ (x : Node). Walks same m x.does) (sym f) h)

full_node_walks : (line : ℕ) (name : Option Name) (word : Name) (is : List BodyItem) → AllByRecursion OfItem is → list_all is_true (map is_plain_item is) ≡ true
    → Walks same (plains.node_step (NodeText-F.Full line name word (map read_item is))) (node_step (NodeText-F.Full line name word (map item_part is))).does
unfolding plains.node_step node_step
full_node_walks line name word is h e r = word_walks line name word is h e (node_type_named word) r

use_walks : (line : ℕ) (name : Name) → Walks same (plains.node_step (NodeText-F.Use line name)) (node_step (NodeText-F.Use line name)).does
unfolding plains.node_step node_step
use_walks line name r = ap (λ o. behind (AnItem ∷ []) (option_map_or walk.pure o (walk.refuse UseWithoutDef line) (walk_of r))) (used_same name r.pairs) ∙ on (last_closed name r.pairs) where
  on : (o : Option ℕ) → behind (AnItem ∷ []) (option_map_or walk.pure o (walk.refuse UseWithoutDef line) (walk_of r)) ≡ mapped walk_of same (behind (AnItem ∷ []) (option_map_or pure o (refuse UseWithoutDef line) r))
  on None = refl
  on (Some n) = refl

-- ---- statements

statement_by : (l m : PlainRead (List ℕ)) (n o : Stated) → l ≡ m → n ≡ o → Walks same m o.1.does → Walks same l n.1.does
statement_by l m n o e f h = subst (λ (x : PlainRead (List ℕ)). Walks same x n.1.does) (sym e) (subst (λ (x : Stated). Walks same m x.1.does) (sym f) h)

node_statement : (n : NodeText) → Walks same (read_text n) (node_part n).does → Walks same (plains.statement_step (Statement-F.Node (read_text n))) (statement_step (Statement-F.Node (node_part n))).1.does
unfolding plains.statement_step statement_step
node_statement n h = maps_then walk_of same same (read_text n) (node_part n).does (λ k. pure (k ∷ [])) (λ k. walk.pure (k ∷ [])) h (λ k x. refl)

route_statement : (route : RouteText) → Walks same (plains.statement_step (Statement-F.Statement::Route route)) (statement_step (Statement-F.Statement::Route route)).1.does
unfolding plains.statement_step statement_step
route_statement route = maps_then walk_of same same (wire_route route) (note_route route) (λ _. pure []) (λ _. walk.pure []) (route_walks route) (λ _ x. refl)

layers : Layers OfItem OfNode OfStatement OfPrototype
layers = record {
  field = λ line name g h e at t b. item_by at t b _ _ _ _ (texts.read-field line name g) (item-field line name g refl) (field_walks line name (given_mapped read_text g) (given_mapped node_part g) (given_reads g h (plain_field line name g e)) at t b);
  declaration = λ d h e at t b. item_by at t b _ _ _ _ (texts.read-declaration d) (item-declaration d refl) (declaration_walks d (given_reads d.given h (plain_declaration d e)) at t b);
  item_route = λ r e at t b. item_by at t b _ _ _ _ (texts.read-item-route r) (item-route r) (route_item_walks r at t b);
  item_proto = λ p h e at t b. never (plain_no_proto p e);
  used = λ line name e. node_by _ _ _ _ (texts.read-use line name) (node-use line name) (use_walks line name);
  full = λ line name word is h e. node_by _ _ _ _ (texts.read-full line name word is) (node-full line name word is refl) (full_node_walks line name word is h (plain_items line name word is e));
  node = λ n h e. statement_by _ _ _ _ (texts.read-node n) (statement-node n refl) (node_statement n (h (plain_in_statement n e)));
  route = λ r e. statement_by _ _ _ _ (texts.read-route r) (statement-route r) (route_statement r);
  proto = λ p h e. never (plain_no_statement p e);
  prototype = λ p hd hs. tt;
}

-- ---- a document

abbrev next_root : PlainRead (List ℕ) → List ℕ → PlainRead (List ℕ)
next_root s roots = s >>= λ ns. pure (roots ++ ns)

abbrev root : Stated → List ℕ → Does (List ℕ)
root s roots = λ w. and_then (s.1.does w) (λ p. walk.pure (roots ++ p.0) p.1)

roots_walk : (ss : List Statement) → AllByRecursion OfStatement ss → list_all is_plain_statement ss ≡ true → (roots : List ℕ) → Walks same (in_turn next_root (map read_statement ss) roots) (walk.through root (map stated ss) roots)
roots_walk [] h e roots r = refl
roots_walk (s ∷ ss) h e roots r =
    let both = both_true (is_plain_statement s) (list_all is_plain_statement ss) e in
    maps_then walk_of same same (next_root (read_statement s) roots) (root (stated s) roots) (in_turn next_root (map read_statement ss)) (walk.through root (map stated ss))
    (maps_then walk_of same same (read_statement s) (stated s).1.does (λ ns. pure (roots ++ ns)) (λ ns. walk.pure (roots ++ ns)) (h.0 both.0) (λ ns x. refl)) (λ all. roots_walk ss h.1 both.1 all) r

abbrev finish : Document → List ℕ × Walk → Outcome Flat
finish d p = walk.comes (Ok (record {
  header = header_of d;
  nodes = p.1.put.nodes;
  roots = p.0;
  helpers = p.1.put.helpers;
  routes = p.1.scope.routes p.1.scope.braces;
}))

abbrev read_finish : Document → List ℕ × Reading → Outcome Flat
read_finish d p = comes (Ok (record {
  header = header_of d;
  nodes = p.1.nodes;
  roots = p.0;
  helpers = [];
  routes = map (route_of p.1.pairs) p.1.wires;
}))

finished : (d : Document) (met : List Met) (c : Result (List ℕ × Reading) ExpandFault) → follow met (came walk_of same c) (finish d) ≡ follow met c (read_finish d)
finished d met (Ok p) = ap (λ routes. record { met = met ++ []; comes = Ok (record { header = header_of d; nodes = p.1.nodes; roots = p.0; helpers = []; routes = routes }) }) (all_wired p.1.pairs p.1.wires)
finished d met (Err e) = refl

finished_of : (d : Document) (o : Outcome (List ℕ × Reading)) → and_then (mapped walk_of same o) (finish d) ≡ and_then o (read_finish d)
finished_of d o = finished d o.met o.comes

pub plain_documents_are_themselves : PlainDocumentsAreThemselves
unfolding flat
plain_documents_are_themselves d e =
    ap (λ o. limited (and_then o (finish d)))
    (roots_walk d.statements (every OfItem OfNode OfStatement OfPrototype layers d.statements) e [] (record { nodes = []; pairs = []; wires = [] }))
    ∙ ap limited (finished_of d (read_all (map read_statement d.statements)))
