-- The parts of a text without instances, beside a plain reading.
use Rattle.std.proofs.Common.{◌≡◌, ℕ, Bool, true, if◌then◌else◌, List, [], ◌∷◌, ◌++◌, length, Option, Some, None, option_map, Ok, map, refl, ap, sym, ◌∙◌, subst}
use Rattle.std.specs.Prelude.{is_some}
use Rattle.std.specs.List.{AllByRecursion, flat_map}
use Rattle.std.specs.Option.{option_or, option_map_or}
use Rattle.std.proofs.Math.Path.{fun_ext}
use Rattle.std.proofs.lemmas.List.{map-append, length-map, map-set}
use denote.Enum.Bare.{sameb}
use Rattle.x3d_values.specs.contracts.node_type.NodeType as node_types
use Rattle.x3d_values.specs.declared.node_type.NodeType.{NodeType}
use Rattle.x3d_values.specs.declared.node_type.NodeType.TheVariants.{Script}
use Rattle.x3d_values.specs.Names.{node_type_named}
use Rattle.classic_tree.specs.declared.tree.BodyItem.{BodyItem}
use Rattle.classic_tree.specs.declared.tree.BodyItem.TheOpen.{BodyItem-F, NodeText-F, Statement-F, ProtoText-F}
use Rattle.classic_tree.specs.declared.tree.Declaration.{Declaration}
use Rattle.classic_tree.specs.declared.tree.Given.{Given}
use Rattle.classic_tree.specs.declared.tree.Given.TheVariants as given
use Rattle.classic_tree.specs.declared.tree.NodeText.{NodeText}
use Rattle.classic_tree.specs.declared.tree.RawValue.TheVariants as value
use Rattle.classic_tree.specs.declared.tree.RouteText.{RouteText}
use Rattle.classic_tree.proofs.Mapped.{given_mapped, declaration_mapped}
use Rattle.proto_flat.specs.declared.fault.ExpandFaultKind.TheVariants.{UnknownField, UnknownNode, UseWithoutDef, FieldTwice}
use Rattle.proto_flat.specs.declared.flat.FlatRoute.{FlatRoute}
use Rattle.proto_meaning.specs.Limits.{ANode, AField, AnItem, Outcome, item_count, behind, and_then}
use Rattle.proto_meaning.specs.Names.{Name, Field, Braces}
use Rattle.proto_meaning.specs.Names as names
use Rattle.proto_meaning.specs.Sight.{Sight, Owner, OfType, OfProto, declared}
use Rattle.proto_meaning.specs.Flat.{Walk, Does, Node, Item, Stated, Proto, Inside, put_in, give, numbered_from, is_filled, field, fields_of, close_node, flat_node, full_node, note_route, item_step, node_step, statement_step, proto_step, declare}
use Rattle.proto_meaning.specs.Flat as walk
use Rattle.proto_meaning.specs.Flat.{item as item_part, node as node_part}
use Rattle.proto_meaning.proofs.Induction.{OfGiven}
use Rattle.laws_documents.specs.Plain.{Reading, PlainRead, ◌>>=◌, pure, refuse, meet, in_turn, last_closed, last_from, wire_route, read_value, Between, ItemReads, close_pair, read_node, read_item, read_text}
use Rattle.laws_documents.specs.Plain as plains
use Rattle.laws_documents.proofs.Maps.{mapped}
use Rattle.laws_documents.proofs.PlainRoutes.{braces_of, wire_pairs, wired, last_same, used_same, wired_more}
use Rattle.laws_documents.specs.Closings.{IsOfNode, in_given, in_item, in_node}
use Rattle.laws_documents.proofs.Lists.{all_split}
use Rattle.laws_documents.proofs.Beside.{same, walk_at, Beside, Follows, beside_behind, follows_mapped, follows_pure, follows_refuse, follows_if, follows_then, follows_see}

abbrev pub inside_of : ℕ → NodeType → Between → Inside
inside_of at t b = record { at = at; owner = OfType t; fields = b.fields; filled = b.filled }

-- a part of a text without instances, and how it is read
abbrev pub NodeFollows : NodeText → Type 0
NodeFollows n = AllByRecursion IsOfNode (in_node n) → Follows same (read_text n) (node_part n).does

abbrev pub ItemFollows : BodyItem → Type 0
ItemFollows i = AllByRecursion IsOfNode (in_item i) → (at : ℕ) (t : NodeType) (b : Between) → Follows (inside_of at t) (read_item i t b) ((item_part i).does (inside_of at t b))

-- ---- routes

pub route_follows : (route : RouteText) → Follows same (wire_route route) (note_route route)
route_follows route = follows_mapped same (wire_route route) (note_route route) (λ s r. noted s r) where
  noted : (s : Sight) (r : Reading) → note_route route (walk_at s r) ≡ mapped (walk_at s) same (wire_route route r)
  noted s r =
      ap (λ at. put (λ all. wired all r.wires ++ wire_pairs all (record { route = route; source = at; target = names.last_from 0 route.target.node (map braces_of r.pairs) }))) (last_same 0 route.source.node r.pairs)
      ∙ ap (λ at. put (λ all. wired all r.wires ++ wire_pairs all (record { route = route; source = last_from 0 route.source.node r.pairs; target = at }))) (last_same 0 route.target.node r.pairs)
      ∙ ap put (fun_ext (λ all. wired_more all r.wires (record { route = route; source = last_from 0 route.source.node r.pairs; target = last_from 0 route.target.node r.pairs }))) where
        put : (List Braces → List FlatRoute) → Outcome (Unit {0} × Walk)
        put routes = record { met = AnItem ∷ []; comes = Ok (tt, record (walk_at s r) { scope = record (walk_at s r).scope { routes = routes } }) }

-- ---- values

abbrev next_number : PlainRead ℕ → List ℕ → PlainRead (List ℕ)
next_number node ns = node >>= λ n. pure (ns ++ n ∷ [])

abbrev put_next : Node → List ℕ → Does (List ℕ)
put_next node ns = λ w. and_then (node.does w) (λ p. walk.pure (ns ++ p.0 ∷ []) p.1)

nodes_follow : (ns : List NodeText) → AllByRecursion NodeFollows ns → AllByRecursion IsOfNode (flat_map in_node ns) → (ks : List ℕ) → Follows same (in_turn next_number (map read_text ns) ks) (walk.through put_next (map node_part ns) ks)
nodes_follow [] h k ks = follows_pure same ks
nodes_follow (n ∷ ns) h k ks =
    let both = all_split IsOfNode (in_node n) (flat_map in_node ns) k in
    follows_then same same (next_number (read_text n) ks) (put_next (node_part n) ks) (in_turn next_number (map read_text ns)) (walk.through put_next (map node_part ns))
    (follows_then same same (read_text n) (node_part n).does (λ m. pure (ks ++ m ∷ [])) (λ m. walk.pure (ks ++ m ∷ [])) (h.0 both.0) (λ m. follows_pure same (ks ++ m ∷ [])))
    (λ ls. nodes_follow ns h.1 both.1 ls)

-- what a field is given, and how it is read
abbrev pub GivenFollows : Given (PlainRead ℕ) → Given Node → Type 0
GivenFollows given.Nothing given.Nothing = Unit {0}
GivenFollows (given.Is a) (given.Is b) = Unit {0}
GivenFollows (given.Value v) (given.Value u) = (item_count u ≡ item_count v) × Follows same (read_value v) (put_in u)
GivenFollows _ _ = ⊥

lengths : {X Y Z : Type 0} (f : X → Y) (g : X → Z) (xs : List X) → length (map f xs) ≡ length (map g xs)
lengths f g xs = length-map xs f ∙ sym (length-map xs g)

pub given_follows : (g : Given NodeText) → OfGiven NodeFollows g → AllByRecursion IsOfNode (in_given in_node g) → GivenFollows (given_mapped read_text g) (given_mapped node_part g)
given_follows given.Nothing h e = tt
given_follows (given.Is name) h e = tt
given_follows (given.Value value.Null) h e = (refl, follows_pure same (value.Null))
given_follows (given.Value (value.Truth truth)) h e = (refl, follows_pure same (value.Truth truth))
given_follows (given.Value (value.String text)) h e = (refl, follows_pure same (value.String text))
given_follows (given.Value (value.Numbers numbers)) h e = (refl, follows_pure same (value.Numbers numbers))
given_follows (given.Value (value.Node n)) h e = (
  refl,
  follows_then same same (read_text n) (node_part n).does (λ k. pure (value.Node k)) (λ k. walk.pure (value.Node k)) (h e) (λ k. follows_pure same (value.Node k)),
)
given_follows (given.Value value.EmptyList) h e = (refl, follows_pure same (value.EmptyList))
given_follows (given.Value (value.TruthList truths)) h e = (refl, follows_pure same (value.TruthList truths))
given_follows (given.Value (value.StringList texts)) h e = (refl, follows_pure same (value.StringList texts))
given_follows (given.Value (value.NumberList numbers)) h e = (refl, follows_pure same (value.NumberList numbers))
given_follows (given.Value (value.NodeList ns)) h e = (
  lengths node_part read_text ns,
  follows_then same same (in_turn next_number (map read_text ns) []) (walk.through put_next (map node_part ns) []) (λ ks. pure (value.NodeList ks)) (λ ks. walk.pure (value.NodeList ks)) (nodes_follow ns h e [])
      (λ ks. follows_pure same (value.NodeList ks)),
)

-- ---- fields

unless_twice : (line : ℕ) (twice : Bool) (at : ℕ) (t : NodeType) (m : PlainRead Between) (n : Does Inside) → Follows (inside_of at t) m n → Follows (inside_of at t) (if twice then refuse FieldTwice line else m) (if twice then walk.refuse FieldTwice line else n)
unless_twice line twice at t m n h = follows_if (inside_of at t) twice (refuse FieldTwice line) m (walk.refuse FieldTwice line) n (follows_refuse (inside_of at t) (refuse FieldTwice line) FieldTwice line) h

give_follows : (line : ℕ) (f : ℕ × Field) (twice : Bool) (g : Given (PlainRead ℕ)) (h : Given Node) (at : ℕ) (t : NodeType) (b : Between) → GivenFollows g h → Follows (inside_of at t) (plains.give line f twice g b) (give line f twice h (inside_of at t b))
give_follows line f twice given.Nothing given.Nothing at t b k =
    unless_twice line twice at t (meet (AField f.0 0) >>= λ _. pure (plains.fill line f b None)) (λ w. and_then (walk.meet (AField f.0 0) w) (λ p. walk.pure (walk.fill line f (inside_of at t b) None) p.1))
    (λ s r. record { what = plains.fill line f b None; after = r; sight = s; read = refl; given = refl; walked = refl })
give_follows line f twice given.Nothing (given.Is a) at t b k = absurd k
give_follows line f twice given.Nothing (given.Value u) at t b k = absurd k
give_follows line f twice (given.Is a) given.Nothing at t b k = absurd k
give_follows line f twice (given.Is a) (given.Is c) at t b k = λ s r. tt
give_follows line f twice (given.Is a) (given.Value u) at t b k = absurd k
give_follows line f twice (given.Value v) given.Nothing at t b k = absurd k
give_follows line f twice (given.Value v) (given.Is a) at t b k = absurd k
give_follows line f twice (given.Value v) (given.Value u) at t b k =
    unless_twice line twice at t (meet (AField f.0 (item_count v)) >>= λ _. read_value v >>= λ r. pure (plains.fill line f b (Some r))) (walk.give_value line f (inside_of at t b) u)
    (λ s r. subst (λ n. Beside (inside_of at t) (behind (AField f.0 (item_count v) ∷ []) (read_filled r)) (behind (AField f.0 n ∷ []) (put_filled (walk_at s r)))) (sym k.0)
    (beside_behind (inside_of at t) (AField f.0 (item_count v) ∷ []) (read_filled r) (put_filled (walk_at s r))
    (follows_then same (inside_of at t) (read_value v) (put_in u) (λ x. pure (plains.fill line f b (Some x))) (λ x. walk.pure (walk.fill line f (inside_of at t b) (Some x))) k.1
    (λ x. follows_pure (inside_of at t) (plains.fill line f b (Some x))) s r))) where
      read_filled : PlainRead Between
      read_filled r = and_then (read_value v r) (λ p. pure (plains.fill line f b (Some p.0)) p.1)

      put_filled : Does Inside
      put_filled w = and_then (put_in u w) (λ p. walk.pure (walk.fill line f (inside_of at t b) (Some p.0)) p.1)

follows_option : {X A B : Type 0} (a : A → B) (o : Option X) (f : X → PlainRead A) (g : X → Does B) (m : PlainRead A) (n : Does B) → ((x : X) → Follows a (f x) (g x)) → Follows a m n → Follows a (option_map_or f o m) (option_map_or g o n)
follows_option a None f g m n h k = k
follows_option a (Some x) f g m n h k = h x

-- ---- items

pub field_follows : (line : ℕ) (name : Name) (g : Given (PlainRead ℕ)) (h : Given Node) → GivenFollows g h → (at : ℕ) (t : NodeType) (b : Between)
    → Follows (inside_of at t) (plains.item_step (BodyItem-F.Field line name g) t b) ((item_step (BodyItem-F.Field line name h)).does (inside_of at t b))
unfolding plains.item_step item_step
field_follows line name g h k at t b =
    follows_option (inside_of at t) (numbered_from 0 name b.fields) (λ f. plains.give line f (plains.is_filled name b) g b) (λ f. give line f (is_filled name (inside_of at t b)) h (inside_of at t b)) (refuse UnknownField line) (walk.refuse UnknownField line)
    (λ f. give_follows line f (plains.is_filled name b) g h at t b k) (follows_refuse (inside_of at t) (refuse UnknownField line) UnknownField line)

pub declaration_follows : (d : Declaration NodeText) → GivenFollows (given_mapped read_text d.given) (given_mapped node_part d.given) → (at : ℕ) (t : NodeType) (b : Between)
    → Follows (inside_of at t) (plains.item_step (BodyItem-F.Declaration (declaration_mapped read_text d)) t b) ((item_step (BodyItem-F.Declaration (declaration_mapped node_part d))).does (inside_of at t b))
unfolding plains.item_step item_step
declaration_follows d k at t b =
    follows_if (inside_of at t) (sameb node_types.the_type t Script)
    (plains.give d.line (length b.fields, field d) (is_some (numbered_from 0 d.name b.fields)) (given_mapped read_text d.given) (record b { fields = b.fields ++ field d ∷ [] })) (refuse UnknownField d.line)
    (give d.line (length b.fields, field d) (is_some (numbered_from 0 d.name b.fields)) (given_mapped node_part d.given) (inside_of at t (record b { fields = b.fields ++ field d ∷ [] }))) (walk.refuse UnknownField d.line)
    (give_follows d.line (length b.fields, field d) (is_some (numbered_from 0 d.name b.fields)) (given_mapped read_text d.given) (given_mapped node_part d.given) at t (record b { fields = b.fields ++ field d ∷ [] }) k)
    (follows_refuse (inside_of at t) (refuse UnknownField d.line) UnknownField d.line)

pub route_item_follows : (route : RouteText) (at : ℕ) (t : NodeType) (b : Between) → Follows (inside_of at t) (plains.item_step (BodyItem-F.BodyItem::Route route) t b) ((item_step (BodyItem-F.BodyItem::Route route)).does (inside_of at t b))
unfolding plains.item_step item_step
route_item_follows route at t b = follows_then same (inside_of at t) (wire_route route) (note_route route) (λ _. pure b) (λ _. walk.pure (inside_of at t b)) (route_follows route) (λ _. follows_pure (inside_of at t) b)

-- a PROTO does nothing to the reading
abbrev pub Passes : Proto → Type 0
Passes p = Follows same (pure (tt {0})) p.does

pub proto_passes : (p : ProtoText-F Item Node Stated Proto) → Passes (proto_step p)
unfolding proto_step
proto_passes p = follows_see (declare p.line p.name p.interface p.body)

pub proto_item_follows : (p : Proto) → Passes p → (at : ℕ) (t : NodeType) (b : Between) → Follows (inside_of at t) (plains.item_step (BodyItem-F.BodyItem::Proto (tt {0})) t b) ((item_step (BodyItem-F.BodyItem::Proto p)).does (inside_of at t b))
unfolding plains.item_step item_step
proto_item_follows p h at t b = follows_then same (inside_of at t) (pure (tt {0})) p.does (λ _. pure b) (λ _. walk.pure (inside_of at t b)) h (λ _. follows_pure (inside_of at t) b)

-- ---- nodes

items_follow : (is : List BodyItem) → AllByRecursion ItemFollows is → AllByRecursion IsOfNode (flat_map in_item is) → (at : ℕ) (t : NodeType) (b : Between)
    → Follows (inside_of at t) (in_turn (λ (i : ItemReads). i t) (map read_item is) b) (walk.through (λ (i : Item). i.does) (map item_part is) (inside_of at t b))
items_follow [] h k at t b = follows_pure (inside_of at t) b
items_follow (i ∷ is) h k at t b =
    let both = all_split IsOfNode (in_item i) (flat_map in_item is) k in
    follows_then (inside_of at t) (inside_of at t) (read_item i t b) ((item_part i).does (inside_of at t b)) (in_turn (λ (i : ItemReads). i t) (map read_item is)) (walk.through (λ (i : Item). i.does) (map item_part is))
    (h.0 both.0 at t b) (λ c. items_follow is h.1 both.1 at t c)

close_follows : (line : ℕ) (name : Option Name) (at : ℕ) (t : NodeType) (b : Between) → Follows same (close_pair name at (plains.flat_node line name t b)) (close_node name at (flat_node line name t (inside_of at t b)))
close_follows line name at t b = follows_mapped same (close_pair name at (plains.flat_node line name t b)) (close_node name at (flat_node line name t (inside_of at t b))) closes where
  closes : (s : Sight) (r : Reading) → close_node name at (flat_node line name t (inside_of at t b)) (walk_at s r) ≡ mapped (walk_at s) same (close_pair name at (plains.flat_node line name t b) r)
  closes s r = ap closed (sym (map-set braces_of r.pairs at (record { name = name; node = Some (length r.nodes) }))) where
    closed : List Braces → Outcome (ℕ × Walk)
    closed all = record {
      met = [];
      comes = Ok (
        length r.nodes,
        record (walk_at s r) {
          put = record { nodes = r.nodes ++ plains.flat_node line name t b ∷ []; helpers = [] };
          scope = record (walk_at s r).scope { braces = all };
        },
      );
    }

abbrev opened : Option Name → Reading → Reading
opened name r = record r { pairs = r.pairs ++ record { name = name; node = None } ∷ [] }

abbrev between : NodeType → Between
between t = record { fields = fields_of t; filled = [] }

module _ (line : ℕ) (name : Option Name) (is : List BodyItem) (h : AllByRecursion ItemFollows is) (k : AllByRecursion IsOfNode (flat_map in_item is)) where
  full_follows : (t : NodeType) → Follows same (read_node line name (map read_item is) t) (full_node line name (map item_part is) (Some (OfType t)))
  full_follows t s r =
      subst (λ (q : Outcome (ℕ × Walk)). Beside same (read_node line name (map read_item is) t r) q)
      (sym (ap (λ at. inner at (map braces_of r.pairs ++ braces_of (record { name = name; node = None }) ∷ [])) (length-map r.pairs braces_of)
      ∙ ap (inner (length r.pairs)) (sym (map-append braces_of r.pairs (record { name = name; node = None } ∷ [])))))
      (beside_behind same (ANode ∷ []) (reads r) (does (walk_at s (opened name r)))
      (follows_then (inside_of (length r.pairs) t) same (in_turn (λ (i : ItemReads). i t) (map read_item is) (between t)) (walk.through (λ (i : Item). i.does) (map item_part is) (inside_of (length r.pairs) t (between t)))
      (λ b. close_pair name (length r.pairs) (plains.flat_node line name t b)) (λ i. close_node name i.at (flat_node line name t i))
      (items_follow is h k (length r.pairs) t (between t)) (λ b. close_follows line name (length r.pairs) t b) s (opened name r))) where
        reads : Reading → Outcome (ℕ × Reading)
        reads r = and_then (in_turn (λ (i : ItemReads). i t) (map read_item is) (between t) (opened name r)) (λ p. close_pair name (length r.pairs) (plains.flat_node line name t p.0) p.1)

        does : Walk → Outcome (ℕ × Walk)
        does w = and_then (walk.through (λ (i : Item). i.does) (map item_part is) (inside_of (length r.pairs) t (between t)) w) (λ p. close_node name p.0.at (flat_node line name t p.0) p.1)

        inner : ℕ → List Braces → Outcome (ℕ × Walk)
        inner at all =
            behind (ANode ∷ [])
            (and_then (walk.through (λ (i : Item). i.does) (map item_part is) (inside_of at t (between t)) (record (walk_at s r) { scope = record (walk_at s r).scope { braces = all } }))
            (λ p. close_node name p.0.at (flat_node line name t p.0) p.1))

  word_follows : (o : Option NodeType) → is_some o ≡ true → (q : Sight → Option Owner)
      → Follows same (option_map_or (read_node line name (map read_item is)) o (refuse UnknownNode line)) (λ w. full_node line name (map item_part is) (option_or (option_map OfType o) (q w.sight)) w)
  word_follows None e q = absurd cc
  word_follows (Some t) e q = full_follows t

  pub full_node_follows : (word : Name) → IsOfNode (record { word = word; name = name })
      → Follows same (plains.node_step (NodeText-F.Full line name word (map read_item is))) (node_step (NodeText-F.Full line name word (map item_part is))).does
  unfolding plains.node_step node_step
  full_node_follows word e = word_follows (node_type_named word) e (λ s. option_map OfProto (declared word (s.here ++ s.outside)))

pub use_follows : (line : ℕ) (name : Name) → Follows same (plains.node_step (NodeText-F.Use line name)) (node_step (NodeText-F.Use line name)).does
unfolding plains.node_step node_step
use_follows line name s r =
    subst (λ (o : Option ℕ). Beside same (behind (AnItem ∷ []) (option_map_or pure (last_closed name r.pairs) (refuse UseWithoutDef line) r)) (behind (AnItem ∷ []) (option_map_or walk.pure o (walk.refuse UseWithoutDef line) (walk_at s r))))
    (sym (used_same name r.pairs)) (on (last_closed name r.pairs)) where
      on : (o : Option ℕ) → Beside same (behind (AnItem ∷ []) (option_map_or pure o (refuse UseWithoutDef line) r)) (behind (AnItem ∷ []) (option_map_or walk.pure o (walk.refuse UseWithoutDef line) (walk_at s r)))
      on None = tt
      on (Some n) = record { what = n; after = r; sight = s; read = refl; given = refl; walked = refl }

-- ---- statements

pub node_statement_follows : (n : NodeText) → Follows same (read_text n) (node_part n).does → Follows same (plains.statement_step (Statement-F.Node (read_text n))) (statement_step (Statement-F.Node (node_part n))).1.does
unfolding plains.statement_step statement_step
node_statement_follows n h = follows_then same same (read_text n) (node_part n).does (λ k. pure (k ∷ [])) (λ k. walk.pure (k ∷ [])) h (λ k. follows_pure same (k ∷ []))

pub route_statement_follows : (route : RouteText) → Follows same (plains.statement_step (Statement-F.Statement::Route route)) (statement_step (Statement-F.Statement::Route route)).1.does
unfolding plains.statement_step statement_step
route_statement_follows route = follows_then same same (wire_route route) (note_route route) (λ _. pure []) (λ _. walk.pure []) (route_follows route) (λ _. follows_pure same [])

pub proto_statement_follows : (p : Proto) → Passes p → Follows same (plains.statement_step (Statement-F.Statement::Proto (tt {0}))) (statement_step (Statement-F.Statement::Proto p)).1.does
unfolding plains.statement_step statement_step
proto_statement_follows p h = follows_then same same (pure (tt {0})) p.does (λ _. pure []) (λ _. walk.pure []) h (λ _. follows_pure same [])
