-- Each part of a text puts in the same with the body in the place of each instance.
use Rattle.std.proofs.Common.{◌≡◌, ℕ, Bool, true, false, if◌then◌else◌, List, [], ◌∷◌, ◌++◌, length, Option, Some, None, option_map, map, refl, ap, sym, ◌∙◌, subst}
use Rattle.std.specs.Prelude.{◌&&◌, is_none, is_some}
use Rattle.std.specs.List.{AllByRecursion, list_all}
use Rattle.std.specs.Option.{option_or}
use Rattle.std.specs.Str.{bytes_eq}
use Rattle.std.proofs.lemmas.List.{length-map}
use Rattle.std.proofs.lemmas.Slice.Eq.{bytes_eq-Decides}
use Rattle.x3d_values.specs.Names.{node_type_named}
use Rattle.x3d_values.specs.declared.node_type.NodeType.{NodeType}
use Rattle.classic_tree.specs.declared.tree.BodyItem.{BodyItem}
use Rattle.classic_tree.specs.declared.tree.BodyItem.TheOpen.{BodyItem-F, NodeText-F, Statement-F}
use Rattle.classic_tree.specs.declared.tree.Declaration.{Declaration}
use Rattle.classic_tree.specs.declared.tree.Given.{Given}
use Rattle.classic_tree.specs.declared.tree.Given.TheVariants as given
use Rattle.classic_tree.specs.declared.tree.NodeText.{NodeText}
use Rattle.classic_tree.specs.declared.tree.NodeText.TheVariants as node_text
use Rattle.classic_tree.specs.declared.tree.ProtoText.{ProtoText}
use Rattle.classic_tree.specs.declared.tree.RawValue.TheVariants as value
use Rattle.classic_tree.specs.declared.tree.Statement.{Statement}
use Rattle.classic_tree.proofs.Mapped.{given_mapped, declaration_mapped}
use Rattle.proto_flat.specs.declared.fault.ExpandFaultKind.TheVariants.{UnknownField, UnknownNode}
use Rattle.proto_meaning.specs.Limits.{ANode}
use Rattle.proto_meaning.specs.Names.{Name, Field, Filled}
use Rattle.proto_meaning.specs.Sight.{Put, Sight, OfType, meant}
use Rattle.proto_meaning.specs.Flat.{Walk, Does, ◌>>=◌, pure, refuse, through, Node, Item, Stated, Inside, give, numbered_from, is_filled, is_script, field, fields_of, close_node, flat_node, full_node, item_step, node_step, statement_step}
use Rattle.proto_meaning.specs.Flat.{item as item_part, node as node_part, statement as stated}
use Rattle.proto_meaning.proofs.Trees.{item-field, item-declaration, node-full, statement-node}
use Rattle.proto_meaning.proofs.Induction.{OfGiven, Layers, every}
use Rattle.laws_documents.specs.InPlace.{none_inside, is_quiet_item, is_quiet_node, is_quiet_statement, written_item, written_node, written_statement, nothing_in_sight}
use Rattle.laws_documents.specs.Steps.{is_true, all_in}
use Rattle.laws_documents.proofs.InPlaceTexts as texts
use Rattle.laws_documents.proofs.InPlaceWalks.{Alike, ComeAlike, Equal, behind_alike, then_alike, pure_alike, refuse_alike, if_alike, option_alike, inside_of, InsideAlike, GivenAlike, give_alike}

abbrev Only : Bool → Type 0 → Type 0
Only false G = G
Only true G = Unit {0}

pub never : {G : Type 0} → false ≡ true → G
never {G} e = subst (λ b. Only b G) (sym e) tt

pub both_true : (a b : Bool) → a && b ≡ true → (a ≡ true) × (b ≡ true)
both_true true b e = (refl, e)
both_true false b e = never e

lengths : {X Y Z : Type 0} (f : X → Y) (g : X → Z) (xs : List X) → length (map f xs) ≡ length (map g xs)
lengths f g xs = length-map xs f ∙ sym (length-map xs g)

module _ (one : Sight) (allowed : Bool) (proto : Name) (body : NodeText)
    (other_words : (word : Name) → bytes_eq proto word ≡ false → meant word one ≡ option_map OfType (node_type_named word))
    (an_instance : allowed ≡ true → (line : ℕ) → Alike one nothing_in_sight Equal (full_node line None [] (meant proto one)) (node_part body).does) where
  abbrev two : Sight
  two = nothing_in_sight

  abbrev Same : {A B : Type 0} → (A → B → Type 0) → Does A → Does B → Type 0
  Same R m n = Alike one two R m n

  abbrev is_quiet : NodeText → Bool
  is_quiet n = is_quiet_node proto allowed n

  abbrev is_quiet_part : BodyItem → Bool
  is_quiet_part i = is_quiet_item proto allowed i

  abbrev new_node : NodeText → NodeText
  new_node n = written_node proto body n

  abbrev new_item : BodyItem → BodyItem
  new_item i = written_item proto body i

  abbrev OfNode : NodeText → Type 0
  OfNode n = is_quiet n ≡ true → Same Equal (node_part n).does (node_part (new_node n)).does

  abbrev Between : ℕ → ℕ → NodeType → Inside → Inside → Type 0
  Between at to t = InsideAlike one two at to t

  abbrev OfItem : BodyItem → Type 0
  OfItem i = is_quiet_part i ≡ true → (at to : ℕ) (t : NodeType) (fields : List Field) (filled : List Filled)
      → Same (Between at to t) ((item_part i).does (inside_of one two at t fields filled)) ((item_part (new_item i)).does (inside_of one two to t fields filled))

  abbrev OfStatement : Statement → Type 0
  OfStatement s = is_quiet_statement proto allowed s ≡ true → Same Equal (stated s).1.does (stated (written_statement proto body s)).1.does

  abbrev OfPrototype : ProtoText → Type 0
  OfPrototype p = Unit {0}

  -- ---- values

  abbrev put_next : Node → List ℕ → Does (List ℕ)
  put_next node ns = node.does >>= λ n. pure (ns ++ n ∷ [])

  nodes_same : (ns : List NodeText) → AllByRecursion OfNode ns → list_all is_true (map is_quiet ns) ≡ true → (ks : List ℕ) → Same Equal (through put_next (map node_part ns) ks) (through put_next (map node_part (map new_node ns)) ks)
  nodes_same [] h e ks = pure_alike one two Equal ks ks refl
  nodes_same (n ∷ ns) h e ks =
      let both = both_true (is_quiet n) (list_all is_true (map is_quiet ns)) e in
      then_alike one two Equal Equal (put_next (node_part n) ks) (put_next (node_part (new_node n)) ks) (through put_next (map node_part ns)) (through put_next (map node_part (map new_node ns)))
      (then_alike one two Equal Equal (node_part n).does (node_part (new_node n)).does (λ k. pure (ks ++ k ∷ [])) (λ k. pure (ks ++ k ∷ [])) (h.0 both.0) (λ a b r. pure_alike one two Equal (ks ++ a ∷ []) (ks ++ b ∷ []) (ap (λ k. ks ++ k ∷ []) r)))
      (λ a b r. subst (λ ls. Same Equal (through put_next (map node_part ns) a) (through put_next (map node_part (map new_node ns)) ls)) (sym r) (nodes_same ns h.1 both.1 a))

  given_same : (g : Given NodeText) → OfGiven OfNode g → all_in (given_mapped is_quiet g) ≡ true → GivenAlike one two (given_mapped node_part g) (given_mapped node_part (given_mapped new_node g))
  given_same given.Nothing h e = tt
  given_same (given.Is name) h e = refl
  given_same (given.Value value.Null) h e = (refl, pure_alike one two Equal value.Null value.Null refl)
  given_same (given.Value (value.Truth truth)) h e = (refl, pure_alike one two Equal (value.Truth truth) (value.Truth truth) refl)
  given_same (given.Value (value.String text)) h e = (refl, pure_alike one two Equal (value.String text) (value.String text) refl)
  given_same (given.Value (value.Numbers numbers)) h e = (refl, pure_alike one two Equal (value.Numbers numbers) (value.Numbers numbers) refl)
  given_same (given.Value (value.Node n)) h e = (refl, then_alike one two Equal Equal (node_part n).does (node_part (new_node n)).does (λ k. pure (value.Node k)) (λ k. pure (value.Node k)) (h e) (λ a b r. pure_alike one two Equal (value.Node a) (value.Node b) (ap (λ k. value.Node k) r)))
  given_same (given.Value value.EmptyList) h e = (refl, pure_alike one two Equal value.EmptyList value.EmptyList refl)
  given_same (given.Value (value.TruthList truths)) h e = (refl, pure_alike one two Equal (value.TruthList truths) (value.TruthList truths) refl)
  given_same (given.Value (value.StringList texts)) h e = (refl, pure_alike one two Equal (value.StringList texts) (value.StringList texts) refl)
  given_same (given.Value (value.NumberList numbers)) h e = (refl, pure_alike one two Equal (value.NumberList numbers) (value.NumberList numbers) refl)
  given_same (given.Value (value.NodeList ns)) h e = (
    length-map (map new_node ns) node_part ∙ length-map ns new_node ∙ sym (length-map ns node_part),
    then_alike one two Equal Equal (through put_next (map node_part ns) []) (through put_next (map node_part (map new_node ns)) []) (λ ks. pure (value.NodeList ks)) (λ ks. pure (value.NodeList ks)) (nodes_same ns h e [])
        (λ a b r. pure_alike one two Equal (value.NodeList a) (value.NodeList b) (ap (λ ks. value.NodeList ks) r)),
  )

  -- ---- items

  item_by : (at to : ℕ) (t : NodeType) (fields : List Field) (filled : List Filled) (l m n o : Item) → l ≡ m → n ≡ o → Same (Between at to t) (m.does (inside_of one two at t fields filled)) (o.does (inside_of one two to t fields filled))
      → Same (Between at to t) (l.does (inside_of one two at t fields filled)) (n.does (inside_of one two to t fields filled))
  item_by at to t fields filled l m n o e f h = subst (λ (x : Item). Same (Between at to t) (x.does (inside_of one two at t fields filled)) (n.does (inside_of one two to t fields filled))) (sym e)
      (subst (λ (x : Item). Same (Between at to t) (m.does (inside_of one two at t fields filled)) (x.does (inside_of one two to t fields filled))) (sym f) h)

  field_same : (line : ℕ) (name : Name) (g h : Given Node) → GivenAlike one two g h → (at to : ℕ) (t : NodeType) (fields : List Field) (filled : List Filled)
      → Same (Between at to t) ((item_step (BodyItem-F.Field line name g)).does (inside_of one two at t fields filled)) ((item_step (BodyItem-F.Field line name h)).does (inside_of one two to t fields filled))
  unfolding item_step
  field_same line name g h k at to t fields filled =
      option_alike one two (Between at to t) (numbered_from 0 name fields)
      (λ f. give line f (is_filled name (inside_of one two at t fields filled)) g (inside_of one two at t fields filled)) (λ f. give line f (is_filled name (inside_of one two to t fields filled)) h (inside_of one two to t fields filled))
      (refuse UnknownField line) (refuse UnknownField line)
      (λ f. give_alike one two line f (is_filled name (inside_of one two at t fields filled)) g h at to t fields filled k) (refuse_alike one two (Between at to t) UnknownField line)

  declaration_same : (d : Declaration NodeText) → GivenAlike one two (given_mapped node_part d.given) (given_mapped node_part (given_mapped new_node d.given)) → (at to : ℕ) (t : NodeType) (fields : List Field) (filled : List Filled)
      → Same (Between at to t) ((item_step (BodyItem-F.Declaration (declaration_mapped node_part d))).does (inside_of one two at t fields filled))
      ((item_step (BodyItem-F.Declaration (declaration_mapped node_part (declaration_mapped new_node d)))).does (inside_of one two to t fields filled))
  unfolding item_step
  declaration_same d k at to t fields filled =
      if_alike one two (Between at to t) (is_script (OfType t))
      (give d.line (length fields, field d) (is_some (numbered_from 0 d.name fields)) (given_mapped node_part d.given) (inside_of one two at t (fields ++ field d ∷ []) filled)) (refuse UnknownField d.line)
      (give d.line (length fields, field d) (is_some (numbered_from 0 d.name fields)) (given_mapped node_part (given_mapped new_node d.given)) (inside_of one two to t (fields ++ field d ∷ []) filled)) (refuse UnknownField d.line)
      (give_alike one two d.line (length fields, field d) (is_some (numbered_from 0 d.name fields)) (given_mapped node_part d.given) (given_mapped node_part (given_mapped new_node d.given)) at to t (fields ++ field d ∷ []) filled k)
      (refuse_alike one two (Between at to t) UnknownField d.line)

  -- ---- nodes

  items_same : (is : List BodyItem) → AllByRecursion OfItem is → list_all is_true (map is_quiet_part is) ≡ true → (at to : ℕ) (t : NodeType) (fields : List Field) (filled : List Filled)
      → Same (Between at to t) (through (λ (i : Item). i.does) (map item_part is) (inside_of one two at t fields filled)) (through (λ (i : Item). i.does) (map item_part (map new_item is)) (inside_of one two to t fields filled))
  items_same [] h e at to t fields filled = pure_alike one two (Between at to t) (inside_of one two at t fields filled) (inside_of one two to t fields filled) (record { fields = fields; filled = filled; first = refl; second = refl })
  items_same (i ∷ is) h e at to t fields filled =
      let both = both_true (is_quiet_part i) (list_all is_true (map is_quiet_part is)) e in
      then_alike one two (Between at to t) (Between at to t) ((item_part i).does (inside_of one two at t fields filled)) ((item_part (new_item i)).does (inside_of one two to t fields filled))
      (through (λ (i : Item). i.does) (map item_part is)) (through (λ (i : Item). i.does) (map item_part (map new_item is)))
      (h.0 both.0 at to t fields filled)
      (λ a b r. subst (λ x. Same (Between at to t) (through (λ (i : Item). i.does) (map item_part is) x) (through (λ (i : Item). i.does) (map item_part (map new_item is)) b)) (sym r.first)
      (subst (λ y. Same (Between at to t) (through (λ (i : Item). i.does) (map item_part is) (inside_of one two at t r.fields r.filled)) (through (λ (i : Item). i.does) (map item_part (map new_item is)) y)) (sym r.second)
      (items_same is h.1 both.1 at to t r.fields r.filled)))

  close_at : (line : ℕ) (name : Option Name) (at to : ℕ) (t : NodeType) (fields : List Field) (filled : List Filled)
      → Same Equal (close_node name at (flat_node line name t (inside_of one two at t fields filled))) (close_node name to (flat_node line name t (inside_of one two to t fields filled)))
  close_at line name at to t fields filled w v b = (
    refl,
    (
      ap (λ p. length p.nodes) b.put,
      record {
        put = ap (λ (p : Put). record p { nodes = p.nodes ++ flat_node line name t (inside_of one two at t fields filled) ∷ [] }) b.put;
        one_sight = b.one_sight;
        two_sight = b.two_sight;
        one_interface = b.one_interface;
        two_interface = b.two_interface;
        one_routes = b.one_routes;
        two_routes = b.two_routes;
      },
    ),
  )

  close_same : (line : ℕ) (name : Option Name) (at to : ℕ) (t : NodeType) (i j : Inside) → Between at to t i j → Same Equal (close_node name i.at (flat_node line name t i)) (close_node name j.at (flat_node line name t j))
  close_same line name at to t i j r =
      subst (λ (x : Inside). Same Equal (close_node name x.at (flat_node line name t x)) (close_node name j.at (flat_node line name t j))) (sym r.first)
      (subst (λ (y : Inside). Same Equal (close_node name at (flat_node line name t (inside_of one two at t r.fields r.filled))) (close_node name y.at (flat_node line name t y))) (sym r.second) (close_at line name at to t r.fields r.filled))

  abbrev begun : Option Name → Walk → Walk
  begun name w = record w { scope = record w.scope { braces = w.scope.braces ++ record { name = name; stands = None } ∷ [] } }

  abbrev typed : ℕ → Option Name → NodeType → List Item → ℕ → Does ℕ
  typed line name t items at = through (λ (i : Item). i.does) items (inside_of one two at t (fields_of t) []) >>= λ i. close_node name i.at (flat_node line name t i)

  typed_same : (line : ℕ) (name : Option Name) (is : List BodyItem) → AllByRecursion OfItem is → list_all is_true (map is_quiet_part is) ≡ true → (t : NodeType) → Same Equal (full_node line name (map item_part is) (Some (OfType t))) (full_node line name (map item_part (map new_item is)) (Some (OfType t)))
  typed_same line name is h e t w v b =
      behind_alike one two Equal (ANode ∷ []) (ANode ∷ [])
      (typed line name t (map item_part is) (length w.scope.braces) (begun name w)) (typed line name t (map item_part (map new_item is)) (length v.scope.braces) (begun name v)) refl
      (then_alike one two (Between (length w.scope.braces) (length v.scope.braces) t) Equal
      (through (λ (i : Item). i.does) (map item_part is) (inside_of one two (length w.scope.braces) t (fields_of t) [])) (through (λ (i : Item). i.does) (map item_part (map new_item is)) (inside_of one two (length v.scope.braces) t (fields_of t) []))
      (λ i. close_node name i.at (flat_node line name t i)) (λ i. close_node name i.at (flat_node line name t i))
      (items_same is h e (length w.scope.braces) (length v.scope.braces) t (fields_of t) []) (close_same line name (length w.scope.braces) (length v.scope.braces) t)
      (begun name w) (begun name v)
      (record { put = b.put; one_sight = b.one_sight; two_sight = b.two_sight; one_interface = b.one_interface; two_interface = b.two_interface; one_routes = b.one_routes; two_routes = b.two_routes }))

  word_same : (line : ℕ) (name : Option Name) (is : List BodyItem) → AllByRecursion OfItem is → list_all is_true (map is_quiet_part is) ≡ true → (t : Option NodeType)
      → Same Equal (full_node line name (map item_part is) (option_map OfType t)) (full_node line name (map item_part (map new_item is)) (option_or (option_map OfType t) None))
  word_same line name is h e None = refuse_alike one two {A = ℕ} {B = ℕ} Equal UnknownNode line
  word_same line name is h e (Some t) = typed_same line name is h e t

  other_same : (line : ℕ) (name : Option Name) (word : Name) (is : List BodyItem) → AllByRecursion OfItem is → list_all is_true (map is_quiet_part is) ≡ true → bytes_eq proto word ≡ false
      → Same Equal (node_step (NodeText-F.Full line name word (map item_part is))).does (node_step (NodeText-F.Full line name word (map item_part (map new_item is)))).does
  unfolding node_step
  other_same line name word is h e miss w v b =
      subst (λ o. ComeAlike one two Equal (full_node line name (map item_part is) o w) (full_node line name (map item_part (map new_item is)) (meant word v.sight) v)) (sym (ap (meant word) b.one_sight ∙ other_words word miss))
      (subst (λ s. ComeAlike one two Equal (full_node line name (map item_part is) (option_map OfType (node_type_named word)) w) (full_node line name (map item_part (map new_item is)) (meant word s) v)) (sym b.two_sight)
      (word_same line name is h e (node_type_named word) w v b))

  bare_same : (line : ℕ) (word : Name) → allowed ≡ true → bytes_eq proto word ≡ true → Same Equal (node_step (NodeText-F.Full line None word [])).does (node_part body).does
  unfolding node_step
  bare_same line word may hit w v b =
      subst (λ x. ComeAlike one two Equal (full_node line None [] (meant x w.sight) w) ((node_part body).does v)) ((bytes_eq-Decides proto word).0 hit)
      (subst (λ s. ComeAlike one two Equal (full_node line None [] (meant proto s) w) ((node_part body).does v)) (sym b.one_sight) (an_instance may line w v b))

  instance_same : (line : ℕ) (name : Option Name) (word : Name) (is : List BodyItem) → (allowed && is_none name && none_inside (map is_quiet_part is)) ≡ true → bytes_eq proto word ≡ true
      → Same Equal (node_step (NodeText-F.Full line name word (map item_part is))).does (node_part body).does
  instance_same line None word [] e hit = bare_same line word (both_true allowed true (both_true (allowed && true) true e).0).0 hit
  instance_same line None word (i ∷ is) e hit = never (both_true (allowed && true) false e).1
  instance_same line (Some name) word is e hit = never (both_true allowed false (both_true (allowed && false) (none_inside (map is_quiet_part is)) e).0).1

  full_case : (line : ℕ) (name : Option Name) (word : Name) (is : List BodyItem) → AllByRecursion OfItem is → (b : Bool) → bytes_eq proto word ≡ b
      → (if b then allowed && is_none name && none_inside (map is_quiet_part is) else list_all is_true (map is_quiet_part is)) ≡ true
      → Same Equal (node_step (NodeText-F.Full line name word (map item_part is))).does (node_part (if b then body else node_text.Full line name word (map new_item is))).does
  full_case line name word is h true hit e = instance_same line name word is e hit
  full_case line name word is h false miss e =
      subst (λ (x : Node). Same Equal (node_step (NodeText-F.Full line name word (map item_part is))).does x.does) (sym (node-full line name word (map new_item is) refl)) (other_same line name word is h e miss)

  node_by : (l m n o : Node) → l ≡ m → n ≡ o → Same Equal m.does o.does → Same Equal l.does n.does
  node_by l m n o e f h = subst (λ (x : Node). Same Equal x.does n.does) (sym e) (subst (λ (x : Node). Same Equal m.does x.does) (sym f) h)

  statement_by : (l m n o : Stated) → l ≡ m → n ≡ o → Same Equal m.1.does o.1.does → Same Equal l.1.does n.1.does
  statement_by l m n o e f h = subst (λ (x : Stated). Same Equal x.1.does n.1.does) (sym e) (subst (λ (x : Stated). Same Equal m.1.does x.1.does) (sym f) h)

  node_statement : (m n : Node) → Same Equal m.does n.does → Same Equal (statement_step (Statement-F.Node m)).1.does (statement_step (Statement-F.Node n)).1.does
  unfolding statement_step
  node_statement m n h = then_alike one two Equal Equal m.does n.does (λ k. pure (k ∷ [])) (λ k. pure (k ∷ [])) h (λ a b r. pure_alike one two Equal (a ∷ []) (b ∷ []) (ap (λ k. k ∷ []) r))

  layers : Layers OfItem OfNode OfStatement OfPrototype
  layers = record {
    field = λ line name g h e at to t fields filled. item_by at to t fields filled _ _ _ _ (item-field line name g refl) (ap item_part (texts.written-field proto body line name g) ∙ item-field line name (given_mapped new_node g) refl)
        (field_same line name (given_mapped node_part g) (given_mapped node_part (given_mapped new_node g)) (given_same g h (sym (texts.quiet-field proto allowed line name g) ∙ e)) at to t fields filled);
    declaration = λ d h e at to t fields filled. item_by at to t fields filled _ _ _ _ (item-declaration d refl) (ap item_part (texts.written-declaration proto body d) ∙ item-declaration (declaration_mapped new_node d) refl)
        (declaration_same d (given_same d.given h (sym (texts.quiet-declaration proto allowed d) ∙ e)) at to t fields filled);
    item_route = λ r e. never (sym (texts.quiet-item-route proto allowed r) ∙ e);
    item_proto = λ p h e. never (sym (texts.quiet-item-proto proto allowed p) ∙ e);
    used = λ line name e. never (sym (texts.quiet-use proto allowed line name) ∙ e);
    full = λ line name word is h e. node_by _ _ _ _ (node-full line name word is refl) (ap node_part (texts.written-full proto body line name word is)) (full_case line name word is h (bytes_eq proto word) refl (sym (texts.quiet-full proto allowed line name word is) ∙ e));
    node = λ n h e. statement_by _ _ _ _ (statement-node n refl) (ap stated (texts.written-node proto body n) ∙ statement-node (new_node n) refl) (node_statement (node_part n) (node_part (new_node n)) (h (sym (texts.quiet-node proto allowed n) ∙ e)));
    route = λ r e. never (sym (texts.quiet-route proto allowed r) ∙ e);
    proto = λ p h e. never (sym (texts.quiet-proto proto allowed p) ∙ e);
    prototype = λ p hd hs. tt;
  }

  pub every_same : (ss : List Statement) → AllByRecursion OfStatement ss
  every_same ss = every OfItem OfNode OfStatement OfPrototype layers ss
