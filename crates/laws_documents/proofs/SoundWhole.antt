-- A document whose words, fields and names are right has a flat form, or is too large.
use Rattle.std.proofs.Common.{◌≡◌, ℕ, Bool, true, false, if◌then◌else◌, nat_lt, List, [], ◌∷◌, ◌++◌, length, Option, Some, None, option_map, Result, Ok, Err, map, refl, ap, sym, ◌∙◌, subst}
use Rattle.std.specs.Prelude.{is_some}
use Rattle.std.specs.List.{AllByRecursion, flat_map}
use Rattle.std.specs.Option.{option_map_or}
use Rattle.std.proofs.lemmas.List.{append-nil}
use Rattle.x3d_values.specs.declared.node_type.NodeType.{NodeType}
use Rattle.x3d_values.specs.Names.{node_type_named}
use Rattle.classic_tree.specs.declared.tree.BodyItem.{BodyItem}
use Rattle.classic_tree.specs.declared.tree.BodyItem.TheOpen.{BodyItem-F}
use Rattle.classic_tree.specs.declared.tree.BodyItem.TheVariants as item_text
use Rattle.classic_tree.specs.declared.tree.Declaration.{Declaration}
use Rattle.classic_tree.specs.declared.tree.Document.{Document}
use Rattle.classic_tree.specs.declared.tree.Given.{Given}
use Rattle.classic_tree.specs.declared.tree.Given.TheVariants as given
use Rattle.classic_tree.specs.declared.tree.RawValue.TheVariants as value
use Rattle.classic_tree.specs.declared.tree.NodeText.{NodeText}
use Rattle.classic_tree.specs.declared.tree.NodeText.TheVariants as node_text
use Rattle.classic_tree.specs.declared.tree.ProtoText.{ProtoText}
use Rattle.classic_tree.specs.declared.tree.RouteText.{RouteText}
use Rattle.classic_tree.specs.declared.tree.Statement.{Statement}
use Rattle.classic_tree.specs.declared.tree.Statement.TheVariants as statement_text
use Rattle.classic_tree.proofs.Mapped.{given_mapped, declaration_mapped}
use Rattle.proto_flat.specs.Fault.{fault}
use Rattle.proto_flat.specs.declared.fault.ExpandFault.{ExpandFault}
use Rattle.proto_flat.specs.declared.fault.ExpandFaultKind.TheVariants.{UnknownField, UnknownNode, UseWithoutDef, TooLarge}
use Rattle.proto_flat.specs.declared.flat.Flat.{Flat}
use Rattle.laws_documents.specs.Signatures.{Signature, of_type, signature}
use Rattle.proto_meaning.specs.Limits.{Met, Outcome, follow, and_then, is_within, with_few_routes}
use Rattle.proto_meaning.specs.Names.{Name, Field}
use Rattle.proto_meaning.specs.Flat.{field, fields_of, header_of, numbered_from, comes}
use Rattle.proto_meaning.proofs.Induction.{OfGiven, Layers, every}
use Rattle.laws_documents.specs.Plain.{Reading, PlainRead, ◌>>=◌, pure, refuse, in_turn, last_closed, Between, ItemReads, give, is_filled, flat_node, close_pair, item_step, node_step, statement_step, read_all, read_item, read_statement, read_text, route_of, plain}
use Rattle.laws_documents.specs.Plain as plains
use Rattle.laws_documents.proofs.PlainTexts as texts
use Rattle.laws_documents.proofs.PlainWalk.{plain_documents_are_themselves}
use Rattle.laws_documents.specs.Fields.{number_of}
use Rattle.laws_documents.specs.Uses.{closes, named, nothing_read, opens, steps}
use Rattle.laws_documents.specs.Uses as uses
use Rattle.laws_documents.specs.Readings.{each, read_given, read_node}
use Rattle.laws_documents.specs.Readings as steps_of
use Rattle.laws_documents.proofs.Lists.{all_split, all_weaker}
use Rattle.laws_documents.proofs.Readings.{read-declaration, read-field, read-full, read-node-statement, read-use}
use Rattle.laws_documents.specs.Faults.{IsPlain}
use Rattle.laws_documents.specs.Parts.{Braces, Declares, BraceField, Gives, Joins, TreePart, Prototype, entries, in_given, in_item, in_node, in_statement}
use Rattle.laws_documents.specs.Parts as parts_of
use Rattle.laws_documents.specs.Sound.{AllNamed, AreOnce, IsFlatOrTooLarge, IsOfType, IsSound, SoundDocumentsAreFlat, entry_number, signed, with_next}
use Rattle.laws_documents.proofs.Keeping.{NodeKeeps, StatementKeeps, ItemKeeps, held_in, opened}
use Rattle.laws_documents.proofs.Keeping as keeping
use Rattle.laws_documents.proofs.Names.{named_same}
use Rattle.laws_documents.proofs.PartTexts as parts
use Rattle.laws_documents.proofs.PlainFaults.{plain_is}
use Rattle.laws_documents.proofs.Reading.{Ends, ends_then, ends_weaker}
use Rattle.laws_documents.proofs.SoundFields.{State, declared_next, declared_once, declared_own, declared_read, declared_script, declared_state, given_found, given_name, given_once, given_read, given_state, next_number}
use Rattle.laws_documents.proofs.SoundNames.{ItemBacks, NodeBacks, StatementBacks, backs, each_backs, inner_named, used_named}
use Rattle.laws_documents.proofs.SoundParts.{After, AreSound, Comes, IsFilledBy, IsOk, ItemOk, NodeOk, OfItem, OfNode, comes_then, ends_any, ends_both, filled_ends, give_comes, given_comes}
use Rattle.laws_documents.proofs.Uses.{law, opened_as}
use Rattle.laws_documents.proofs.Uses as kept

-- ---- of the nodes in a value

given_weaker : (P Q : NodeText → Type 0) → ((n : NodeText) → P n → Q n) → (g : Given NodeText) → OfGiven P g → OfGiven Q g
given_weaker P Q k given.Nothing h = tt
given_weaker P Q k (given.Is name) h = tt
given_weaker P Q k (given.Value value.Null) h = tt
given_weaker P Q k (given.Value (value.Truth truth)) h = tt
given_weaker P Q k (given.Value (value.String text)) h = tt
given_weaker P Q k (given.Value (value.Numbers numbers)) h = tt
given_weaker P Q k (given.Value (value.Node n)) h = k n h
given_weaker P Q k (given.Value value.EmptyList) h = tt
given_weaker P Q k (given.Value (value.TruthList truths)) h = tt
given_weaker P Q k (given.Value (value.StringList texts)) h = tt
given_weaker P Q k (given.Value (value.NumberList numbers)) h = tt
given_weaker P Q k (given.Value (value.NodeList ns)) h = all_weaker P Q k ns h

-- ---- items

abbrev Right : (t : NodeType) → List Signature → List BraceField → PlainRead Between → Reading → Type 0
Right t all rest m r = Comes (m r) × Ends (After t all rest) (m r)

next_before : (before : List ℕ) (o : Option ℕ) (k : ℕ) → o ≡ Some k → with_next before o ≡ before ++ k ∷ []
next_before before o k e = ap (with_next before) e

-- the part's field is the next one
first_entry : (i : BodyItem) (es : List BraceField) → entries i ≡ es → (t : NodeType) (all : List Signature) (before : List ℕ) (rest : List BraceField) → AreOnce t all before (entries i ++ rest) → AreOnce t all before (es ++ rest)
first_entry i es e t all before rest h = subst (λ xs. AreOnce t all before (xs ++ rest)) e h

module _ (line : ℕ) (name : Name) (g : Given NodeText) (h : OfGiven OfNode g) where
  abbrev of_field : BodyItem
  of_field = item_text.Field line name g

  field_right : AreSound (in_given in_node g) → (t : NodeType) (all : List Signature) (rest : List BraceField) (b : Between) (r : Reading) (x : uses.Reading) (before : List ℕ) → State t all before b → AreOnce t all before (Gives name ∷ rest) → kept.Reads (held_in b.filled) r x
      → AllNamed (read_given (read_node steps) g x) → Right t all rest (item_step (BodyItem-F.Field line name (given_mapped read_text g)) t b) r
  unfolding item_step
  field_right k t all rest b r x before s once i a =
      let n = next_number before (option_map number_of (of_type t name)) once.0 in
      let f = given_found t all before b s name n in
      let given_now = given_comes g h k in
      subst (λ (o : Option (ℕ × Field)). Right t all rest (option_map_or (λ f. give line f (is_filled name b) (given_mapped read_text g) b) o (refuse UnknownField line)) r) (sym f.is)
      (subst (λ (twice : Bool). Right t all rest (give line (n.number, f.field) twice (given_mapped read_text g) b) r) (sym (given_once t all before b s name n)) (
        give_comes line (n.number, f.field) (given_mapped read_text g) g given_now b (held_in b.filled) r x i a,
        ends_weaker (IsFilledBy line (n.number, f.field) b) (After t all rest) (give line (n.number, f.field) false (given_mapped read_text g) b r) (filled_ends line (n.number, f.field) (given_mapped read_text g) g given_now b r)
            (λ c q p. record {
              before = before ++ n.number ∷ [];
              state = subst (State t all (before ++ n.number ∷ [])) (sym p.1)
                  (given_state t all before b s name n.number (record { line = line; name = f.field.name; number = n.number; value = p.0 }) (given_read t all before b s name n) (given_name t all before b s name n));
              once = subst (λ ks. AreOnce t all ks rest) (next_before before (option_map number_of (of_type t name)) n.number n.is) once.1;
            }),
      ))

  field_ok : ItemOk of_field
  field_ok k t all rest b r x now i a =
      subst (λ (m : ItemReads). Right t all rest (m t b) r) (sym (texts.read-field line name g))
      (field_right (subst (λ (p : parts_of.BraceItem). AreSound p.inside) (parts.part_field line name g) k) t all rest b r x now.before now.state
      (first_entry of_field (Gives name ∷ []) (ap (λ (p : parts_of.BraceItem). p.entries) (parts.part_field line name g)) t all now.before rest now.once) i (subst AllNamed (read-field steps line name g x) a))

module _ (d : Declaration NodeText) (h : OfGiven OfNode d.given) where
  abbrev of_declaration : BodyItem
  of_declaration = item_text.Declaration d

  declaration_right : AreSound (in_given in_node d.given) → (t : NodeType) (all : List Signature) (rest : List BraceField) (b : Between) (r : Reading) (x : uses.Reading) (before : List ℕ) → State t all before b → AreOnce t all before (Declares (signature d) ∷ rest) → kept.Reads (held_in b.filled) r x
      → AllNamed (read_given (read_node steps) d.given x) → Right t all rest (item_step (BodyItem-F.Declaration (declaration_mapped read_text d)) t b) r
  unfolding item_step
  declaration_right k t all rest b r x before s once i a =
      let next = once.0 in
      let n = declared_next t all before b s d.name next in
      let read = declared_read t all before b s d.name next in
      let c : Between = record b { fields = b.fields ++ field d ∷ [] } in
      let f : ℕ × Field = (length b.fields, field d) in
      let given_now = given_comes d.given h k in
      subst (λ (script : Bool). Right t all rest (if script then give d.line f (is_some (numbered_from 0 d.name b.fields)) (given_mapped read_text d.given) c else refuse UnknownField d.line) r) (sym (declared_script t all before b s d.name next))
      (subst (λ (twice : Bool). Right t all rest (give d.line f twice (given_mapped read_text d.given) c) r) (sym (declared_once t all before b s d.name next)) (
        give_comes d.line f (given_mapped read_text d.given) d.given given_now c (held_in b.filled) r x i a,
        ends_weaker (IsFilledBy d.line f c) (After t all rest) (give d.line f false (given_mapped read_text d.given) c r) (filled_ends d.line f (given_mapped read_text d.given) d.given given_now c r)
            (λ e q p. record {
              before = before ++ n.number ∷ [];
              state = subst (State t all (before ++ n.number ∷ [])) (sym p.1)
                  (declared_state t all before b s d.name n.number (field d) (record { line = d.line; name = d.name; number = length b.fields; value = p.0 }) read refl refl);
              once = subst (λ ks. AreOnce t all ks rest) (next_before before (entry_number t all (Declares (signature d))) n.number (declared_own t all before b s d.name next)) once.1;
            }),
      ))

  declaration_ok : ItemOk of_declaration
  declaration_ok k t all rest b r x now i a =
      subst (λ (m : ItemReads). Right t all rest (m t b) r) (sym (texts.read-declaration d))
      (declaration_right (subst (λ (p : parts_of.BraceItem). AreSound p.inside) (parts.part_declaration d) k) t all rest b r x now.before now.state
      (first_entry of_declaration (Declares (signature d) ∷ []) (ap (λ (p : parts_of.BraceItem). p.entries) (parts.part_declaration d)) t all now.before rest now.once) i (subst AllNamed (read-declaration steps d x) a))

route_item_ok : (route : RouteText) → ItemOk (item_text.Route route)
unfolding item_step
route_item_ok route k t all rest b r x now i a =
    subst (λ (m : ItemReads). Right t all rest (m t b) r) (sym (texts.read-item-route route)) (
      tt,
      record {
        before = now.before;
        state = now.state;
        once = first_entry (item_text.Route route) [] (ap (λ (p : parts_of.BraceItem). p.entries) (parts.part_route route)) t all now.before rest now.once;
      },
    )

proto_item_ok : (p : ProtoText) → ItemOk (item_text.Proto p)
proto_item_ok p k t all rest b r x now i a = absurd (subst (λ (q : parts_of.BraceItem). AreSound q.inside) (parts.part_proto p) k).0

-- ---- nodes

items_back : (is : List BodyItem) → AllByRecursion OfItem is → AllByRecursion ItemBacks is
items_back [] h = tt
items_back (i ∷ is) h = (h.0.backs, items_back is h.1)

items_come : (is : List BodyItem) → AllByRecursion OfItem is → AreSound (flat_map in_item is) → (t : NodeType) (all : List Signature) (b : Between) (r : Reading) (x : uses.Reading) → After t all (flat_map entries is) b r → kept.Reads (held_in b.filled) r x
    → AllNamed (each (steps_of.read_item steps) is x) → Comes (in_turn (λ (i : ItemReads). i t) (map read_item is) b r)
items_come [] h k t all b r x now i a = tt
items_come (j ∷ is) h k t all b r x now i a =
    let sound = all_split IsSound (in_item j) (flat_map in_item is) k in
    let one = h.0.comes sound.0 t all (flat_map entries is) b r x now i (each_backs (steps_of.read_item steps) is (items_back is h.1) (steps_of.read_item steps j x) a) in
    comes_then (λ c q. After t all (flat_map entries is) c q × kept.Reads (held_in c.filled) q (steps_of.read_item steps j x)) (in_turn (λ (i : ItemReads). i t) (map read_item is)) (read_item j t b r) one.0
    (ends_both (After t all (flat_map entries is)) (λ c q. kept.Reads (held_in c.filled) q (steps_of.read_item steps j x)) (read_item j t b r) one.1 (h.0.keeps t b r x i))
    (λ c q p. items_come is h.1 sound.1 t all c q (steps_of.read_item steps j x) p.0 p.1 a)

full_comes : (line : ℕ) (name : Option Name) (word : Name) (is : List BodyItem) → AllByRecursion OfItem is → AreSound (flat_map in_item is) → (o : Option NodeType) → IsOfType o (flat_map entries is) → (here : List ℕ) (r : Reading) (x : uses.Reading) → kept.Reads here r x
    → AllNamed (closes name x (each (steps_of.read_item steps) is (opens name x))) → Comes (option_map_or (plains.read_node line name (map read_item is)) o (refuse UnknownNode line) r)
full_comes line name word is h k None once here r x i a = absurd once
full_comes line name word is h k (Some t) once here r x i a =
    let first : Between = record { fields = fields_of t; filled = [] } in
    let o = in_turn (λ (i : ItemReads). i t) (map read_item is) first (opened name r) in
    comes_then (λ b q. Unit {0}) (λ b. close_pair name (length r.pairs) (flat_node line name t b)) o
    (items_come is h k t (flat_map signed (flat_map entries is)) first (opened name r) (opens name x)
    (record { before = []; state = record { more = []; known = sym (append-nil (fields_of t)); declared = tt; filled = tt }; once = once }) (opened_as name here r x i)
    (inner_named name x (each (steps_of.read_item steps) is (opens name x)) a))
    (ends_any o) (λ b q p. tt)

full_ok : (line : ℕ) (name : Option Name) (word : Name) (is : List BodyItem) → AllByRecursion OfItem is → NodeOk (node_text.Full line name word is)
unfolding node_step
full_ok line name word is h k here r x i a =
    let sound = all_split IsSound (flat_map in_item is) (Braces word (flat_map entries is) ∷ []) (subst AreSound (parts.in_full line name word is) k) in
    subst (λ (m : PlainRead ℕ). Comes (m r)) (sym (texts.read-full line name word is))
    (full_comes line name word is h sound.0 (node_type_named word) sound.1.0 here r x i (subst AllNamed (read-full steps line name word is x) a))

use_comes : (line : ℕ) (o : Option ℕ) (r : Reading) → is_some o ≡ true → Comes (option_map_or pure o (refuse UseWithoutDef line) r)
use_comes line None r e = absurd cc
use_comes line (Some n) r e = tt

use_ok : (line : ℕ) (name : Name) → NodeOk (node_text.Use line name)
unfolding node_step
use_ok line name k here r x i a =
    let named_is = (used_named (named name x.opened) x (subst AllNamed (read-use steps line name x) a)).1 in
    subst (λ (m : PlainRead ℕ). Comes (m r)) (sym (texts.read-use line name))
    (use_comes line (last_closed name r.pairs) r (ap is_some (sym (named_same name r.pairs) ∙ ap (λ (y : uses.Reading). named name y.opened) (sym i)) ∙ named_is))

-- ---- statements

abbrev StatementOk : Statement → Type 0
StatementOk s = AreSound (in_statement s) → (here : List ℕ) (r : Reading) (x : uses.Reading) → kept.Reads here r x → AllNamed (steps_of.read_statement steps s x) → Comes (read_statement s r)

pub record OfStatement (s : Statement) : Type 0 where
  pub keeps : StatementKeeps kept.Reads law s
  pub backs : StatementBacks s
  pub comes : StatementOk s

node_ok : (n : NodeText) → NodeOk n → StatementOk (statement_text.Node n)
unfolding statement_step
node_ok n h k here r x i a =
    subst (λ (m : PlainRead (List ℕ)). Comes (m r)) (sym (texts.read-node n))
    (comes_then (λ m q. Unit {0}) (λ m. pure (m ∷ [])) (read_text n r) (h (subst AreSound (parts.in_node_statement n) k) here r x i (subst AllNamed (read-node-statement steps n x) a)) (ends_any (read_text n r)) (λ m q p. tt))

route_ok : (route : RouteText) → StatementOk (statement_text.Route route)
unfolding statement_step
route_ok route k here r x i a = subst (λ (m : PlainRead (List ℕ)). Comes (m r)) (sym (texts.read-route route)) tt

proto_ok : (p : ProtoText) → StatementOk (statement_text.Proto p)
proto_ok p k here r x i a = absurd (subst AreSound (parts.in_proto p) k).0

-- ---- the parts of a text

given_keeps : (g : Given NodeText) → OfGiven OfNode g → OfGiven (NodeKeeps kept.Reads law) g
given_keeps g h = given_weaker OfNode (NodeKeeps kept.Reads law) (λ n k. k.keeps) g h

given_back : (g : Given NodeText) → OfGiven OfNode g → OfGiven NodeBacks g
given_back g h = given_weaker OfNode NodeBacks (λ n k. k.backs) g h

keep : Layers (ItemKeeps kept.Reads law) (NodeKeeps kept.Reads law) (StatementKeeps kept.Reads law) (λ p. Unit {0})
keep = keeping.layers kept.Reads law

items_keep : (is : List BodyItem) → AllByRecursion OfItem is → AllByRecursion (ItemKeeps kept.Reads law) is
items_keep is h = all_weaker OfItem (ItemKeeps kept.Reads law) (λ i k. k.keeps) is h

layers : Layers OfItem OfNode OfStatement (λ p. Unit {0})
layers = record {
  field = λ line name g h. record { keeps = keep.field line name g (given_keeps g h); backs = backs.field line name g (given_back g h); comes = field_ok line name g h };
  declaration = λ d h. record { keeps = keep.declaration d (given_keeps d.given h); backs = backs.declaration d (given_back d.given h); comes = declaration_ok d h };
  item_route = λ r. record { keeps = keep.item_route r; backs = backs.item_route r; comes = route_item_ok r };
  item_proto = λ p h. record { keeps = keep.item_proto p h; backs = backs.item_proto p h; comes = proto_item_ok p };
  used = λ line name. record { keeps = keep.used line name; backs = backs.used line name; comes = use_ok line name };
  full = λ line name word is h. record { keeps = keep.full line name word is (items_keep is h); backs = backs.full line name word is (items_back is h); comes = full_ok line name word is h };
  node = λ n h. record { keeps = keep.node n h.keeps; backs = backs.node n h.backs; comes = node_ok n h.comes };
  route = λ r. record { keeps = keep.route r; backs = backs.route r; comes = route_ok r };
  proto = λ p h. record { keeps = keep.proto p h; backs = backs.proto p h; comes = proto_ok p };
  prototype = λ p h k. tt;
}

-- ---- a document

abbrev next_root : PlainRead (List ℕ) → List ℕ → PlainRead (List ℕ)
next_root s roots = s >>= λ ns. pure (roots ++ ns)

statements_back : (ss : List Statement) → AllByRecursion OfStatement ss → AllByRecursion StatementBacks ss
statements_back ss h = all_weaker OfStatement StatementBacks (λ s k. k.backs) ss h

roots_come : (ss : List Statement) → AllByRecursion OfStatement ss → AreSound (flat_map in_statement ss) → (roots : List ℕ) (r : Reading) (x : uses.Reading) → kept.Reads roots r x → AllNamed (each (steps_of.read_statement steps) ss x)
    → Comes (in_turn next_root (map read_statement ss) roots r)
roots_come [] h k roots r x i a = tt
roots_come (s ∷ ss) h k roots r x i a =
    let sound = all_split IsSound (in_statement s) (flat_map in_statement ss) k in
    let y = steps_of.read_statement steps s x in
    let first = h.0.comes sound.0 roots r x i (each_backs (steps_of.read_statement steps) ss (statements_back ss h.1) y a) in
    comes_then (λ all q. kept.Reads all q y) (in_turn next_root (map read_statement ss)) (next_root (read_statement s) roots r)
    (comes_then (λ ns q. Unit {0}) (λ ns. pure (roots ++ ns)) (read_statement s r) first (ends_any (read_statement s r)) (λ ns q p. tt))
    (ends_then (λ ns q. kept.Reads (roots ++ ns) q y) (λ all q. kept.Reads all q y) (λ ns. pure (roots ++ ns)) (read_statement s r) (h.0.keeps roots r x i) (λ ns q j. j))
    (λ all q j. roots_come ss h.1 sound.1 all q y j a)

few_large : (b : Bool) (f : Flat) → IsFlatOrTooLarge (if b then Err (fault TooLarge 0) else Ok f)
few_large true f = refl
few_large false f = tt

limit_large : (b : Bool) (r : Result Flat ExpandFault) → IsFlatOrTooLarge r → IsFlatOrTooLarge (if b then r else Err (fault TooLarge 0))
limit_large true r h = h
limit_large false r h = refl

routes_large : (r : Result Flat ExpandFault) → IsOk r → IsFlatOrTooLarge (with_few_routes r)
routes_large (Ok f) h = few_large (nat_lt 65536 (length f.routes)) f
routes_large (Err e) h = absurd h

abbrev finish : Document → List ℕ × Reading → Outcome Flat
finish d p = comes (Ok (record {
  header = header_of d;
  nodes = p.1.nodes;
  roots = p.0;
  helpers = [];
  routes = map (route_of p.1.pairs) p.1.wires;
}))

finish_ok : (d : Document) (met : List Met) (c : Result (List ℕ × Reading) ExpandFault) → IsOk c → IsOk (follow met c (finish d)).comes
finish_ok d met (Ok p) h = tt
finish_ok d met (Err e) h = h

plain_comes : (d : Document) → AreSound (flat_map in_statement d.statements) → AllNamed (uses.read d) → IsFlatOrTooLarge (plain d)
plain_comes d k a =
    let nothing : Reading = record { nodes = []; pairs = []; wires = [] } in
    let o = read_all (map read_statement d.statements) in
    let whole = and_then o (finish d) in
    limit_large (is_within whole.met) (with_few_routes whole.comes)
    (routes_large whole.comes (finish_ok d o.met o.comes (roots_come d.statements (every OfItem OfNode OfStatement (λ p. Unit {0}) layers d.statements) k [] nothing nothing_read refl a)))

sound_plain : (p : TreePart) → IsSound p → IsPlain p
sound_plain (Braces word es) h = tt
sound_plain Prototype h = h
sound_plain Joins h = h

pub sound_documents_are_flat : SoundDocumentsAreFlat
sound_documents_are_flat d k a =
    subst IsFlatOrTooLarge (sym (plain_documents_are_themselves d (plain_is d (all_weaker IsSound IsPlain sound_plain (flat_map in_statement d.statements) k)))) (plain_comes d k a)
