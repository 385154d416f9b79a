-- Each part of a text puts in the same with values in the place of ISs, and the body in the place of each
-- instance.
use Rattle.std.proofs.Common.{◌≡◌, ℕ, Bool, true, false, if◌then◌else◌, List, [], ◌∷◌, ◌++◌, length, Option, Some, None, option_map, map, refl, ap, sym, ◌∙◌, subst}
use Rattle.std.specs.Prelude.{◌&&◌}
use Rattle.std.specs.List.{AllByRecursion, find, list_all}
use Rattle.std.specs.Option.{option_or}
use Rattle.std.specs.Str.{bytes_eq}
use Rattle.std.proofs.lemmas.List.{length-map, append_assoc}
use Rattle.std.proofs.lemmas.Slice.Eq.{bytes_eq-Decides}
use Rattle.x3d_values.specs.Names.{node_type_named}
use Rattle.x3d_values.specs.declared.node_type.NodeType.{NodeType}
use Rattle.classic_tree.specs.declared.tree.BodyItem.{BodyItem}
use Rattle.classic_tree.specs.declared.tree.BodyItem.TheOpen.{BodyItem-F, NodeText-F, Statement-F}
use Rattle.classic_tree.specs.declared.tree.BodyItem.TheVariants as item_text
use Rattle.classic_tree.specs.declared.tree.Declaration.{Declaration}
use Rattle.classic_tree.specs.declared.tree.Given.{Given}
use Rattle.classic_tree.specs.declared.tree.Given.TheVariants as given
use Rattle.classic_tree.specs.declared.tree.NodeText.{NodeText}
use Rattle.classic_tree.specs.declared.tree.NodeText.TheVariants as node_text
use Rattle.classic_tree.specs.declared.tree.ProtoText.{ProtoText}
use Rattle.classic_tree.specs.declared.tree.RawValue.TheVariants as value
use Rattle.classic_tree.specs.declared.tree.Statement.{Statement, out-Statement}
use Rattle.classic_tree.specs.declared.tree.Statement.TheVariants as statement_text
use Rattle.classic_tree.proofs.Mapped.{given_mapped, declaration_mapped}
use Rattle.proto_flat.specs.declared.flat.FlatField.{FlatField}
use Rattle.proto_flat.specs.declared.flat.FlatNode.{FlatNode}
use Rattle.proto_meaning.specs.Limits.{ANode, Outcome, behind}
use Rattle.proto_meaning.specs.Names.{Name, Field, Filled, value_of}
use Rattle.proto_meaning.specs.Sight.{Sight, Names, OfType, meant}
use Rattle.proto_meaning.specs.Flat.{Walk, Does, ◌>>=◌, pure, through, Node, Item, Stated, Inside, fields_of, close_node, flat_node, full_node, item_step, node_step, statement_step}
use Rattle.proto_meaning.specs.Flat.{item as item_part, node as node_part, statement as stated}
use Rattle.proto_meaning.proofs.Trees.{item-field, item-declaration, node-full, statement-node}
use Rattle.proto_meaning.proofs.Induction.{OfGiven, Layers, every_statement}
use Rattle.laws_documents.specs.InPlace.{nothing_in_sight}
use Rattle.laws_documents.specs.Steps.{is_true, all_in}
use Rattle.laws_documents.specs.WithFields.{Quiet, quiet_item, is_quiet_node, is_quiet_statement, Finds, Braces, replaced, those_there, written_item, written_node, written_statement, named}
use Rattle.laws_documents.proofs.InPlaceParts.{never, both_true}
use Rattle.laws_documents.proofs.WithFieldsSteps.{longer, named_full, named_last, rename, behind_then, then_then, split_all, IfNode, out_node, out_route, out_proto, field_same, declared_same}
use Rattle.laws_documents.proofs.WithFieldsSteps.{may_do as may_do_in}
use Rattle.laws_documents.proofs.WithFieldsTexts as texts
use Rattle.laws_documents.proofs.WithFieldsTexts.{joined, asked_in, asked_by_item, asked_by, asked_by_statement}
use Rattle.laws_documents.proofs.WithFieldsWalks.{fewer_same, Kept, kept_same, Equal, FoundAs, Beside, ComeAlike, Alike, behind_alike, then_alike, pure_alike, inside_of, InsideAlike, GivenAs}

module _ (one : Sight) (names : List Field) (values : List Filled) (helpers : List ℕ) (firsts seconds : List FlatNode) (same_length : length seconds ≡ length firsts) (takes : Names) (allowed : Bool) (proto : Name) (finds : Finds) (braces : Braces)
    (other_words : (word : Name) → bytes_eq proto word ≡ false → meant word one ≡ option_map OfType (node_type_named word))
    (other_braces : (line : ℕ) (name : Option Name) (word : Name) (is : List BodyItem) → bytes_eq proto word ≡ false → braces line name word is ≡ node_text.Full line name word is)
    (found : (x : Name) → takes x ≡ true → (o : Field) → find (λ (f : Field). bytes_eq f.name x) names ≡ Some o → FoundAs (value_of o.name values) (given_mapped node_part (replaced finds (given.Is x))))
    (an_instance : allowed ≡ true → (line : ℕ) (name : Option Name) (is : List BodyItem) → list_all (λ (q : Quiet). q.in_instance) (map (quiet_item proto allowed) is) ≡ true
    → Alike one nothing_in_sight names values helpers firsts seconds Equal (full_node line name (map item_part is) (meant proto one)) (node_part (braces line name proto (those_there (map (written_item finds braces) is)))).does) where
  abbrev two : Sight
  two = nothing_in_sight

  abbrev Same : {A B : Type 0} → (A → B → Type 0) → Does A → Does B → Type 0
  Same R m n = Alike one two names values helpers firsts seconds R m n

  abbrev new_node : NodeText → NodeText
  new_node n = written_node finds braces n

  abbrev new_item : BodyItem → Option BodyItem
  new_item i = written_item finds braces i

  abbrev is_quiet : NodeText → Bool
  is_quiet n = is_quiet_node proto allowed n

  abbrev quiet_part : BodyItem → Quiet
  quiet_part i = quiet_item proto allowed i

  abbrev all_quiet : List Quiet → Bool
  all_quiet qs = list_all (λ (q : Quiet). q.anywhere) qs

  -- the same under a new name as well
  abbrev Named : Node → NodeText → Type 0
  Named m n = (name : Name) → Same Equal (m.does >>= rename (Some name)) (node_part (named (Some name) n)).does

  abbrev OfNode : NodeText → Type 0
  OfNode n = is_quiet n ≡ true → list_all takes (asked_by n) ≡ true → Same Equal (node_part n).does (node_part (new_node n)).does × (allowed ≡ false → Named (node_part n) (new_node n))

  abbrev Between : ℕ → ℕ → NodeType → Inside → Inside → Type 0
  Between at to t = InsideAlike one two names values helpers firsts seconds at to t

  abbrev before : ℕ → NodeType → List Field → List Filled → Inside
  before at t fields filled = inside_of one two names values helpers firsts seconds at t fields filled

  abbrev may_do : Option BodyItem → Inside → Does Inside
  may_do i j = may_do_in one names values helpers firsts seconds i j

  abbrev OfItem : BodyItem → Type 0
  OfItem i = (quiet_part i).anywhere ≡ true → list_all takes (asked_by_item i) ≡ true → (at to : ℕ) (t : NodeType) (fields : List Field) (filled others : List Filled) → Kept filled others
      → Same (Between at to t) ((item_part i).does (before at t fields filled)) (may_do (new_item i) (before to t fields others))

  abbrev StatementSame : Statement → Type 0
  StatementSame s = is_quiet_statement proto allowed s ≡ true → list_all takes (asked_by_statement s) ≡ true → Same Equal (stated s).1.does (stated (written_statement finds braces s)).1.does

  abbrev OfStatement : Statement → Type 0
  OfStatement s = StatementSame s × IfNode OfNode (out-Statement s)

  abbrev OfPrototype : ProtoText → Type 0
  OfPrototype p = Unit {0}

  abbrev put_next : Node → List ℕ → Does (List ℕ)
  put_next node ns = node.does >>= λ n. pure (ns ++ n ∷ [])

  pure_same : {A B : Type 0} (R : A → B → Type 0) (a : A) (b : B) → R a b → Same R (pure a) (pure b)
  pure_same R a b r = pure_alike one two names values helpers firsts seconds R a b r

  then_same : {A B C D : Type 0} (R : A → B → Type 0) (Q : C → D → Type 0) (m : Does A) (n : Does B) (f : A → Does C) (g : B → Does D) → Same R m n → ((a : A) (b : B) → R a b → Same Q (f a) (g b)) → Same Q (m >>= f) (n >>= g)
  then_same R Q m n f g h k = then_alike one two names values helpers firsts seconds R Q m n f g h k

  nodes_same : (ns : List NodeText) → AllByRecursion OfNode ns → list_all is_true (map is_quiet ns) ≡ true → list_all takes (joined (map asked_by ns)) ≡ true → (ks : List ℕ)
      → Same Equal (through put_next (map node_part ns) ks) (through put_next (map node_part (map new_node ns)) ks)
  nodes_same [] h e asks ks = pure_same Equal ks ks refl
  nodes_same (n ∷ ns) h e asks ks =
      let both = both_true (is_quiet n) (list_all is_true (map is_quiet ns)) e in
      let each = split_all takes (asked_by n) (joined (map asked_by ns)) asks in
      then_same Equal Equal (put_next (node_part n) ks) (put_next (node_part (new_node n)) ks) (through put_next (map node_part ns)) (through put_next (map node_part (map new_node ns)))
      (then_same Equal Equal (node_part n).does (node_part (new_node n)).does (λ k. pure (ks ++ k ∷ [])) (λ k. pure (ks ++ k ∷ [])) (h.0 both.0 each.0).0 (λ a b r. pure_same Equal (ks ++ a ∷ []) (ks ++ b ∷ []) (ap (λ k. ks ++ k ∷ []) r)))
      (λ a b r. subst (λ ls. Same Equal (through put_next (map node_part ns) a) (through put_next (map node_part (map new_node ns)) ls)) (sym r) (nodes_same ns h.1 both.1 each.1 a))

  given_same : (g : Given NodeText) → OfGiven OfNode g → all_in (given_mapped is_quiet g) ≡ true → list_all takes (asked_in (given_mapped asked_by g)) ≡ true
      → GivenAs one two names values helpers firsts seconds (given_mapped node_part g) (given_mapped node_part (replaced finds (given_mapped new_node g)))
  given_same given.Nothing h e asks = tt
  given_same (given.Is name) h e asks = found name (both_true (takes name) true asks).0
  given_same (given.Value value.Null) h e asks = (refl, pure_same Equal value.Null value.Null refl)
  given_same (given.Value (value.Truth truth)) h e asks = (refl, pure_same Equal (value.Truth truth) (value.Truth truth) refl)
  given_same (given.Value (value.String text)) h e asks = (refl, pure_same Equal (value.String text) (value.String text) refl)
  given_same (given.Value (value.Numbers numbers)) h e asks = (refl, pure_same Equal (value.Numbers numbers) (value.Numbers numbers) refl)
  given_same (given.Value (value.Node n)) h e asks = (refl, then_same Equal Equal (node_part n).does (node_part (new_node n)).does (λ k. pure (value.Node k)) (λ k. pure (value.Node k)) (h e asks).0 (λ a b r. pure_same Equal (value.Node a) (value.Node b) (ap (λ k. value.Node k) r)))
  given_same (given.Value value.EmptyList) h e asks = (refl, pure_same Equal value.EmptyList value.EmptyList refl)
  given_same (given.Value (value.TruthList truths)) h e asks = (refl, pure_same Equal (value.TruthList truths) (value.TruthList truths) refl)
  given_same (given.Value (value.StringList texts)) h e asks = (refl, pure_same Equal (value.StringList texts) (value.StringList texts) refl)
  given_same (given.Value (value.NumberList numbers)) h e asks = (refl, pure_same Equal (value.NumberList numbers) (value.NumberList numbers) refl)
  given_same (given.Value (value.NodeList ns)) h e asks = (
    length-map (map new_node ns) node_part ∙ length-map ns new_node ∙ sym (length-map ns node_part),
    then_same Equal Equal (through put_next (map node_part ns) []) (through put_next (map node_part (map new_node ns)) []) (λ ks. pure (value.NodeList ks)) (λ ks. pure (value.NodeList ks)) (nodes_same ns h e asks [])
        (λ a b r. pure_same Equal (value.NodeList a) (value.NodeList b) (ap (λ ks. value.NodeList ks) r)),
  )

  -- ---- items

  may_by : (at to : ℕ) (t : NodeType) (fields : List Field) (filled others : List Filled) (l m : Item) (n o : Option BodyItem) → l ≡ m → n ≡ o → Same (Between at to t) (m.does (before at t fields filled)) (may_do o (before to t fields others))
      → Same (Between at to t) (l.does (before at t fields filled)) (may_do n (before to t fields others))
  may_by at to t fields filled others l m n o e f h = subst (λ (x : Item). Same (Between at to t) (x.does (before at t fields filled)) (may_do n (before to t fields others))) (sym e)
      (subst (λ (x : Option BodyItem). Same (Between at to t) (m.does (before at t fields filled)) (may_do x (before to t fields others))) (sym f) h)

  declaration_same : (d : Declaration NodeText) → GivenAs one two names values helpers firsts seconds (given_mapped node_part d.given) (given_mapped node_part (replaced finds (given_mapped new_node d.given))) → (at to : ℕ) (t : NodeType) (fields : List Field) (filled others : List Filled) → Kept filled others
      → Same (Between at to t) ((item_step (BodyItem-F.Declaration (declaration_mapped node_part d))).does (before at t fields filled))
      (may_do (Some (item_text.Declaration (record (declaration_mapped new_node d) { given = replaced finds (given_mapped new_node d.given) }))) (before to t fields others))
  declaration_same d k at to t fields filled others kept =
      subst (λ (y : Item). Same (Between at to t) ((item_step (BodyItem-F.Declaration (declaration_mapped node_part d))).does (before at t fields filled)) (y.does (before to t fields others)))
      (sym (item-declaration (record (declaration_mapped new_node d) { given = replaced finds (given_mapped new_node d.given) }) refl))
      (declared_same one names values helpers firsts seconds (declaration_mapped node_part d) (declaration_mapped node_part (record (declaration_mapped new_node d) { given = replaced finds (given_mapped new_node d.given) })) k at to t fields filled others kept)

  -- ---- nodes

  abbrev all_do : List Item → Inside → Does Inside
  all_do items = through (λ (i : Item). i.does) items

  next_is : (x : Option BodyItem) (xs : List (Option BodyItem)) (j : Inside) (v : Walk) → (may_do x j >>= all_do (map item_part (those_there xs))) v ≡ all_do (map item_part (those_there (x ∷ xs))) j v
  next_is None xs j v = refl
  next_is (Some i) xs j v = refl

  items_same : (is : List BodyItem) → AllByRecursion OfItem is → all_quiet (map quiet_part is) ≡ true → list_all takes (joined (map asked_by_item is)) ≡ true → (at to : ℕ) (t : NodeType) (fields : List Field) (filled others : List Filled) → Kept filled others
      → Same (Between at to t) (all_do (map item_part is) (before at t fields filled)) (all_do (map item_part (those_there (map new_item is))) (before to t fields others))
  items_same [] h e asks at to t fields filled others kept = pure_same (Between at to t) (before at t fields filled) (before to t fields others) (record { fields = fields; filled = filled; others = others; first = refl; second = refl; kept = kept })
  items_same (i ∷ is) h e asks at to t fields filled others kept = λ w v b.
      let both = both_true (quiet_part i).anywhere (all_quiet (map quiet_part is)) e in
      let each = split_all takes (asked_by_item i) (joined (map asked_by_item is)) asks in
      subst (λ (o : Outcome (Inside × Walk)). ComeAlike one two names values helpers firsts seconds (Between at to t) (all_do (map item_part (i ∷ is)) (before at t fields filled) w) o) (next_is (new_item i) (map new_item is) (before to t fields others) v)
      (then_same (Between at to t) (Between at to t) ((item_part i).does (before at t fields filled)) (may_do (new_item i) (before to t fields others))
      (all_do (map item_part is)) (all_do (map item_part (those_there (map new_item is))))
      (h.0 both.0 each.0 at to t fields filled others kept)
      (λ a c r. subst (λ x. Same (Between at to t) (all_do (map item_part is) x) (all_do (map item_part (those_there (map new_item is))) c)) (sym r.first)
      (subst (λ y. Same (Between at to t) (all_do (map item_part is) (before at t r.fields r.filled)) (all_do (map item_part (those_there (map new_item is))) y)) (sym r.second)
      (items_same is h.1 both.1 each.1 at to t r.fields r.filled r.others r.kept))) w v b)

  close_at : (line : ℕ) (name : Option Name) (at to : ℕ) (t : NodeType) (fields : List Field) (filled others : List Filled) → Kept filled others
      → Same Equal (close_node name at (flat_node line name t (before at t fields filled))) (close_node name to (flat_node line name t (before to t fields others)))
  close_at line name at to t fields filled others kept w v b = (
    fewer_same [],
    ap (λ (ns : List FlatNode). length ns) b.two_nodes ∙ longer seconds firsts b.tail same_length ∙ sym (ap (λ (ns : List FlatNode). length ns) b.one_nodes),
    record {
      tail = b.tail ++ flat_node line name t (before at t fields filled) ∷ [];
      one_nodes = ap (λ (ns : List FlatNode). ns ++ flat_node line name t (before at t fields filled) ∷ []) b.one_nodes ∙ append_assoc firsts b.tail (flat_node line name t (before at t fields filled) ∷ []);
      two_nodes = ap (λ (ns : List FlatNode). ns ++ flat_node line name t (before to t fields others) ∷ []) b.two_nodes
          ∙ ap (λ (fs : List FlatField). (seconds ++ b.tail) ++ record (flat_node line name t (before to t fields others)) { fields = fs } ∷ []) kept.flat
          ∙ append_assoc seconds b.tail (flat_node line name t (before at t fields filled) ∷ []);
      one_helpers = b.one_helpers;
      two_helpers = b.two_helpers;
      one_sight = b.one_sight;
      two_sight = b.two_sight;
      found = b.found;
      found_values = b.found_values;
      one_routes = b.one_routes;
      two_routes = b.two_routes;
    },
  )

  close_named : (line : ℕ) (old : Option Name) (name : Name) (at to : ℕ) (t : NodeType) (fields : List Field) (filled others : List Filled) → Kept filled others
      → Same Equal (close_node old at (flat_node line old t (before at t fields filled)) >>= rename (Some name)) (close_node (Some name) to (flat_node line (Some name) t (before to t fields others)))
  close_named line old name at to t fields filled others kept w v b = (
    fewer_same [],
    ap (λ (ns : List FlatNode). length ns) b.two_nodes ∙ longer seconds firsts b.tail same_length ∙ sym (ap (λ (ns : List FlatNode). length ns) b.one_nodes),
    record {
      tail = b.tail ++ flat_node line (Some name) t (before at t fields filled) ∷ [];
      one_nodes = named_last name w.put.nodes (flat_node line old t (before at t fields filled)) ∙ ap (λ (ns : List FlatNode). ns ++ flat_node line (Some name) t (before at t fields filled) ∷ []) b.one_nodes ∙ append_assoc firsts b.tail (flat_node line (Some name) t (before at t fields filled) ∷ []);
      two_nodes = ap (λ (ns : List FlatNode). ns ++ flat_node line (Some name) t (before to t fields others) ∷ []) b.two_nodes
          ∙ ap (λ (fs : List FlatField). (seconds ++ b.tail) ++ record (flat_node line (Some name) t (before to t fields others)) { fields = fs } ∷ []) kept.flat
          ∙ append_assoc seconds b.tail (flat_node line (Some name) t (before at t fields filled) ∷ []);
      one_helpers = b.one_helpers;
      two_helpers = b.two_helpers;
      one_sight = b.one_sight;
      two_sight = b.two_sight;
      found = b.found;
      found_values = b.found_values;
      one_routes = b.one_routes;
      two_routes = b.two_routes;
    },
  )

  by_insides : {A B : Type 0} (R : A → B → Type 0) (at to : ℕ) (t : NodeType) (f : Inside → Does A) (g : Inside → Does B)
      → ((fields : List Field) (filled others : List Filled) → Kept filled others → Same R (f (before at t fields filled)) (g (before to t fields others)))
      → (i j : Inside) → Between at to t i j → Same R (f i) (g j)
  by_insides R at to t f g h i j r =
      subst (λ (x : Inside). Same R (f x) (g j)) (sym r.first) (subst (λ (y : Inside). Same R (f (before at t r.fields r.filled)) (g y)) (sym r.second) (h r.fields r.filled r.others r.kept))

  abbrev begun : Option Name → Walk → Walk
  begun name w = record w { scope = record w.scope { braces = w.scope.braces ++ record { name = name; stands = None } ∷ [] } }

  abbrev typed : ℕ → Option Name → NodeType → List Item → ℕ → Does ℕ
  typed line name t items at = all_do items (before at t (fields_of t) []) >>= λ i. close_node name i.at (flat_node line name t i)

  begun_beside : (old name : Option Name) (w v : Walk) → Beside one two names values helpers firsts seconds w v → Beside one two names values helpers firsts seconds (begun old w) (begun name v)
  begun_beside old name w v b = record { tail = b.tail; one_nodes = b.one_nodes; two_nodes = b.two_nodes; one_helpers = b.one_helpers; two_helpers = b.two_helpers; one_sight = b.one_sight; two_sight = b.two_sight; found = b.found; found_values = b.found_values; one_routes = b.one_routes; two_routes = b.two_routes }

  typed_same : (line : ℕ) (name : Option Name) (is : List BodyItem) → AllByRecursion OfItem is → all_quiet (map quiet_part is) ≡ true → list_all takes (joined (map asked_by_item is)) ≡ true → (t : NodeType)
      → Same Equal (full_node line name (map item_part is) (Some (OfType t))) (full_node line name (map item_part (those_there (map new_item is))) (Some (OfType t)))
  typed_same line name is h e asks t w v b =
      let at = length w.scope.braces in let to = length v.scope.braces in
      behind_alike one two names values helpers firsts seconds Equal (ANode ∷ []) (ANode ∷ [])
      (typed line name t (map item_part is) at (begun name w)) (typed line name t (map item_part (those_there (map new_item is))) to (begun name v)) (fewer_same (ANode ∷ []))
      (then_same (Between at to t) Equal (all_do (map item_part is) (before at t (fields_of t) [])) (all_do (map item_part (those_there (map new_item is))) (before to t (fields_of t) []))
      (λ i. close_node name i.at (flat_node line name t i)) (λ i. close_node name i.at (flat_node line name t i))
      (items_same is h e asks at to t (fields_of t) [] [] (kept_same []))
      (by_insides Equal at to t (λ i. close_node name i.at (flat_node line name t i)) (λ i. close_node name i.at (flat_node line name t i)) (close_at line name at to t))
      (begun name w) (begun name v) (begun_beside name name w v b))

  typed_named : (line : ℕ) (old : Option Name) (name : Name) (is : List BodyItem) → AllByRecursion OfItem is → all_quiet (map quiet_part is) ≡ true → list_all takes (joined (map asked_by_item is)) ≡ true → (t : NodeType)
      → Same Equal (full_node line old (map item_part is) (Some (OfType t)) >>= rename (Some name)) (full_node line (Some name) (map item_part (those_there (map new_item is))) (Some (OfType t)))
  typed_named line old name is h e asks t w v b =
      let at = length w.scope.braces in let to = length v.scope.braces in
      let items = all_do (map item_part is) (before at t (fields_of t) []) in
      subst (λ (o : Outcome (ℕ × Walk)). ComeAlike one two names values helpers firsts seconds Equal o (behind (ANode ∷ []) (typed line (Some name) t (map item_part (those_there (map new_item is))) to (begun (Some name) v))))
      (sym (behind_then (ANode ∷ []) (typed line old t (map item_part is) at (begun old w)) (λ q. rename (Some name) q.0 q.1)
      ∙ ap (λ o. behind (ANode ∷ []) o) (then_then (items (begun old w)) (λ q. close_node old q.0.at (flat_node line old t q.0) q.1) (λ q. rename (Some name) q.0 q.1))))
      (behind_alike one two names values helpers firsts seconds Equal (ANode ∷ []) (ANode ∷ [])
      ((items >>= λ i. (close_node old i.at (flat_node line old t i) >>= rename (Some name))) (begun old w)) (typed line (Some name) t (map item_part (those_there (map new_item is))) to (begun (Some name) v)) (fewer_same (ANode ∷ []))
      (then_same (Between at to t) Equal items (all_do (map item_part (those_there (map new_item is))) (before to t (fields_of t) []))
      (λ i. (close_node old i.at (flat_node line old t i) >>= rename (Some name))) (λ i. close_node (Some name) i.at (flat_node line (Some name) t i))
      (items_same is h e asks at to t (fields_of t) [] [] (kept_same []))
      (by_insides Equal at to t (λ i. (close_node old i.at (flat_node line old t i) >>= rename (Some name))) (λ i. close_node (Some name) i.at (flat_node line (Some name) t i)) (close_named line old name at to t))
      (begun old w) (begun (Some name) v) (begun_beside old (Some name) w v b)))

  other_same : (line : ℕ) (name : Option Name) (word : Name) (is : List BodyItem) → AllByRecursion OfItem is → all_quiet (map quiet_part is) ≡ true → list_all takes (joined (map asked_by_item is)) ≡ true → bytes_eq proto word ≡ false
      → Same Equal (node_step (NodeText-F.Full line name word (map item_part is))).does (node_step (NodeText-F.Full line name word (map item_part (those_there (map new_item is))))).does
  unfolding node_step
  other_same line name word is h e asks miss w v b =
      subst (λ o. ComeAlike one two names values helpers firsts seconds Equal (full_node line name (map item_part is) o w) (full_node line name (map item_part (those_there (map new_item is))) (meant word v.sight) v)) (sym (ap (meant word) b.one_sight ∙ other_words word miss))
      (subst (λ s. ComeAlike one two names values helpers firsts seconds Equal (full_node line name (map item_part is) (option_map OfType (node_type_named word)) w) (full_node line name (map item_part (those_there (map new_item is))) (meant word s) v)) (sym b.two_sight)
      (on (node_type_named word)))
    where
      on : (t : Option NodeType) → ComeAlike one two names values helpers firsts seconds Equal (full_node line name (map item_part is) (option_map OfType t) w) (full_node line name (map item_part (those_there (map new_item is))) (option_or (option_map OfType t) None) v)
      on None = tt
      on (Some t) = typed_same line name is h e asks t w v b

  other_named : (line : ℕ) (old : Option Name) (name : Name) (word : Name) (is : List BodyItem) → AllByRecursion OfItem is → all_quiet (map quiet_part is) ≡ true → list_all takes (joined (map asked_by_item is)) ≡ true → bytes_eq proto word ≡ false
      → Same Equal ((node_step (NodeText-F.Full line old word (map item_part is))).does >>= rename (Some name)) (node_step (NodeText-F.Full line (Some name) word (map item_part (those_there (map new_item is))))).does
  unfolding node_step
  other_named line old name word is h e asks miss w v b =
      subst (λ o. ComeAlike one two names values helpers firsts seconds Equal ((full_node line old (map item_part is) o >>= rename (Some name)) w) (full_node line (Some name) (map item_part (those_there (map new_item is))) (meant word v.sight) v)) (sym (ap (meant word) b.one_sight ∙ other_words word miss))
      (subst (λ s. ComeAlike one two names values helpers firsts seconds Equal ((full_node line old (map item_part is) (option_map OfType (node_type_named word)) >>= rename (Some name)) w) (full_node line (Some name) (map item_part (those_there (map new_item is))) (meant word s) v)) (sym b.two_sight)
      (on (node_type_named word)))
    where
      on : (t : Option NodeType) → ComeAlike one two names values helpers firsts seconds Equal ((full_node line old (map item_part is) (option_map OfType t) >>= rename (Some name)) w) (full_node line (Some name) (map item_part (those_there (map new_item is))) (option_or (option_map OfType t) None) v)
      on None = tt
      on (Some t) = typed_named line old name is h e asks t w v b

  its_same : (line : ℕ) (name : Option Name) (word : Name) (is : List BodyItem) → list_all (λ (q : Quiet). q.in_instance) (map quiet_part is) ≡ true → allowed ≡ true → bytes_eq proto word ≡ true
      → Same Equal (node_step (NodeText-F.Full line name word (map item_part is))).does (node_part (braces line name word (those_there (map new_item is)))).does
  unfolding node_step
  its_same line name word is e may hit w v b =
      subst (λ x. ComeAlike one two names values helpers firsts seconds Equal (full_node line name (map item_part is) (meant x w.sight) w) ((node_part (braces line name x (those_there (map new_item is)))).does v)) ((bytes_eq-Decides proto word).0 hit)
      (subst (λ s. ComeAlike one two names values helpers firsts seconds Equal (full_node line name (map item_part is) (meant proto s) w) ((node_part (braces line name proto (those_there (map new_item is)))).does v)) (sym b.one_sight) (an_instance may line name is e w v b))

  abbrev Full : (line : ℕ) (name : Option Name) (word : Name) (is : List BodyItem) → Type 0
  Full line name word is =
      Same Equal (node_step (NodeText-F.Full line name word (map item_part is))).does (node_part (braces line name word (those_there (map new_item is)))).does
      × (allowed ≡ false → Named (node_step (NodeText-F.Full line name word (map item_part is))) (braces line name word (those_there (map new_item is))))

  full_case : (line : ℕ) (name : Option Name) (word : Name) (is : List BodyItem) → AllByRecursion OfItem is → list_all takes (joined (map asked_by_item is)) ≡ true → (b : Bool) → bytes_eq proto word ≡ b
      → (if b then allowed && list_all (λ (q : Quiet). q.in_instance) (map quiet_part is) else all_quiet (map quiet_part is)) ≡ true
      → Full line name word is
  full_case line name word is h asks true hit e =
      let both = both_true allowed (list_all (λ (q : Quiet). q.in_instance) (map quiet_part is)) e in
      (its_same line name word is both.1 both.0 hit, λ none. never (sym none ∙ both.0))
  full_case line name word is h asks false miss e = (
    subst (λ (x : NodeText). Same Equal (node_step (NodeText-F.Full line name word (map item_part is))).does (node_part x).does) (sym (other_braces line name word (those_there (map new_item is)) miss))
        (subst (λ (x : Node). Same Equal (node_step (NodeText-F.Full line name word (map item_part is))).does x.does) (sym (node-full line name word (those_there (map new_item is)) refl)) (other_same line name word is h e asks miss)),
    λ none new. subst (λ (x : NodeText). Same Equal ((node_step (NodeText-F.Full line name word (map item_part is))).does >>= rename (Some new)) (node_part (named (Some new) x)).does) (sym (other_braces line name word (those_there (map new_item is)) miss))
        (subst (λ (x : Node). Same Equal ((node_step (NodeText-F.Full line name word (map item_part is))).does >>= rename (Some new)) x.does)
        (sym (ap node_part (named_full new line name word (those_there (map new_item is))) ∙ node-full line (Some new) word (those_there (map new_item is)) refl)) (other_named line name new word is h e asks miss)),
  )

  node_by : (m n : Node) (x y : NodeText) → m ≡ n → x ≡ y → Same Equal n.does (node_part y).does × (allowed ≡ false → Named n y) → Same Equal m.does (node_part x).does × (allowed ≡ false → Named m x)
  node_by m n x y e f h = subst (λ (k : Node). Same Equal k.does (node_part x).does × (allowed ≡ false → Named k x)) (sym e)
      (subst (λ (z : NodeText). Same Equal n.does (node_part z).does × (allowed ≡ false → Named n z)) (sym f) h)

  statement_by : (l m n o : Stated) → l ≡ m → n ≡ o → Same Equal m.1.does o.1.does → Same Equal l.1.does n.1.does
  statement_by l m n o e f h = subst (λ (x : Stated). Same Equal x.1.does n.1.does) (sym e) (subst (λ (x : Stated). Same Equal m.1.does x.1.does) (sym f) h)

  node_statement : (m n : Node) → Same Equal m.does n.does → Same Equal (statement_step (Statement-F.Node m)).1.does (statement_step (Statement-F.Node n)).1.does
  unfolding statement_step
  node_statement m n h = then_same Equal Equal m.does n.does (λ k. pure (k ∷ [])) (λ k. pure (k ∷ [])) h (λ a b r. pure_same Equal (a ∷ []) (b ∷ []) (ap (λ k. k ∷ []) r))

  layers : Layers OfItem OfNode OfStatement OfPrototype
  layers = record {
    field = λ line name g h e asks at to t fields filled others kept. may_by at to t fields filled others _ _ _ _ (item-field line name g refl) (texts.written-field finds braces line name g)
        (field_same one names values helpers firsts seconds line name (given_mapped node_part g) (replaced finds (given_mapped new_node g)) (given_same g h (sym (ap (λ (q : Quiet). q.anywhere) (texts.quiet-field proto allowed line name g)) ∙ e) (sym (ap (list_all takes) (texts.asked-field line name g)) ∙ asks)) at to t fields filled others kept);
    declaration = λ d h e asks at to t fields filled others kept. may_by at to t fields filled others _ _ _ _ (item-declaration d refl) (texts.written-declaration finds braces d)
        (declaration_same d (given_same d.given h (sym (ap (λ (q : Quiet). q.anywhere) (texts.quiet-declaration proto allowed d)) ∙ e) (sym (ap (list_all takes) (texts.asked-declaration d)) ∙ asks)) at to t fields filled others kept);
    item_route = λ r e. never (sym (ap (λ (q : Quiet). q.anywhere) (texts.quiet-item-route proto allowed r)) ∙ e);
    item_proto = λ p h e. never (sym (ap (λ (q : Quiet). q.anywhere) (texts.quiet-item-proto proto allowed p)) ∙ e);
    used = λ line name e. never (sym (texts.quiet-use proto allowed line name) ∙ e);
    full = λ line name word is h e asks. node_by _ _ _ _ (node-full line name word is refl) (texts.written-full finds braces line name word is)
        (full_case line name word is h (sym (ap (list_all takes) (texts.asked-full line name word is)) ∙ asks) (bytes_eq proto word) refl (sym (texts.quiet-full proto allowed line name word is) ∙ e));
    node = λ n h. (
      λ e asks. statement_by _ _ _ _ (statement-node n refl) (ap stated (texts.written-node finds braces n) ∙ statement-node (new_node n) refl)
          (node_statement (node_part n) (node_part (new_node n)) (h (sym (texts.quiet-node proto allowed n) ∙ e) (sym (ap (list_all takes) (texts.asked-node n)) ∙ asks)).0),
      subst (IfNode OfNode) (sym (out_node n)) h,
    );
    route = λ r. (λ e asks. never (sym (texts.quiet-route proto allowed r) ∙ e), subst (IfNode OfNode) (sym (out_route r)) tt);
    proto = λ p h. (λ e asks. never (sym (texts.quiet-proto proto allowed p) ∙ e), subst (IfNode OfNode) (sym (out_proto p)) tt);
    prototype = λ p hd hs. tt;
  }

  pub every_same : (s : Statement) → StatementSame s
  every_same s = (every_statement OfItem OfNode OfStatement OfPrototype layers s).0

  pub every_node : (n : NodeText) → OfNode n
  every_node n = subst (IfNode OfNode) (out_node n) (every_statement OfItem OfNode OfStatement OfPrototype layers (statement_text.Node n)).1
