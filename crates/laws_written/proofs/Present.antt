-- What the fields of a scene's nodes hold when it is written.
use Rattle.std.proofs.Common.{◌≡◌, ℕ, zero, suc, ◌+◌, ◌<◌, Bool, true, false, not, ◌&&◌, if◌then◌else◌, List, [], ◌∷◌, ◌++◌, length, map, Option, Some, None, Ok, slice_get, refl, sym, ap, subst, ◌∙◌, ◌⊎◌, inl, inr, arith}
use Rattle.std.specs.Prelude.{option_map}
use Rattle.std.specs.List.{AllByRecursion, list_all}
use Rattle.std.specs.Option.{option_and_then, option_map_or, option_or}
use Rattle.std.proofs.lemmas.List.{take-map}
use Rattle.std.proofs.lemmas.Option.{slice_get-map}
use Rattle.x3d_values.specs.declared.field_type.Access.{Access}
use Rattle.x3d_values.specs.declared.field_type.Access.TheVariants as access
use Rattle.x3d_values.specs.declared.field_type.FieldType.{FieldType}
use Rattle.x3d_values.specs.declared.fields.Fields.{Fields}
use Rattle.x3d_values.specs.declared.node_type.NodeType.{NodeType}
use Rattle.x3d_values.specs.declared.node_type.NodeType.TheVariants.{Group}
use Rattle.x3d_values.specs.declared.value.Value.{Value}
use Rattle.x3d_values.specs.Access.{holds_nodes, is_exposed, is_initial, is_kept}
use Rattle.x3d_values.specs.Kept.{field_value}
use Rattle.x3d_values.specs.Tables.{AreTyped, FieldRowView, IsTyped, rows}
use Rattle.x3d_values.specs.Values.{nodes_of}
use Rattle.classic_tree.specs.declared.tree.Declaration.{Declaration}
use Rattle.proto_flat.specs.declared.flat.Flat.{Flat}
use Rattle.proto_flat.specs.declared.flat.FlatNode.{FlatNode}
use Rattle.scene_values.specs.Typing.{called}
use Rattle.scene_core.specs.declared.row.DeclaredField.{DeclaredField}
use Rattle.scene_core.specs.declared.scene.SceneNode.{SceneNode}
use Rattle.scene_core.specs.Building.{scene_of}
use Rattle.scene_core.specs.Deep.{linked}
use Rattle.scene_core.specs.Parts.{given}
use Rattle.scene_core.specs.Scene.{SceneView, declared_at, rows_at, shape_of, value_at}
use Rattle.scene_core.specs.Shape.{Shape, declaration_entry, declared_by, declared_entry, is_rotation, most_declared, numbered_fields, rows_of}
use Rattle.scene_text.specs.Tree.{kept_value}
use Rattle.laws_written.proofs.NumberedLists.{at_map, some_is, within}
use Rattle.laws_written.proofs.Lower.{children_lower}
use Rattle.laws_written.proofs.NumberedScenes.{IsSceneOf, found, label_in, numbers_of, scene_is}
use Rattle.laws_written.specs.Values.{is_sound}
use Rattle.laws_written.specs.Writable.{AreKeepable}
use Rattle.laws_written.proofs.Lists.{all_at, all_weaker}
use Rattle.laws_written.specs.Fields.{value_now, without_routes}
use Rattle.laws_written.specs.Sound.{AreOfType, AreSound}
use Rattle.laws_written.proofs.Holding.{Holds, declared_holds, declared_right, kept_holds, right, row_holds}
use Rattle.laws_written.proofs.Made.{IsNode, node_is, value_in}
use Rattle.laws_written.proofs.Reading.{IsFit}

-- ---- the rows of a node

rows_right : (t : NodeType) → list_all right (rows t) ≡ true
rows_right Group = refl
rows_right _ = refl

both : (a b : Bool) → (a && b) ≡ true → (a ≡ true) × (b ≡ true)
both true b e = (refl, e)
both false b e = absurd cc

each_right : (es : List FieldRowView) → list_all right es ≡ true → AllByRecursion (λ (e : FieldRowView). right e ≡ true) es
each_right [] h = tt
each_right (e ∷ es) h = let b = both (right e) (list_all right es) h in (b.0, each_right es b.1)

right_at : (t : NodeType) (i : ℕ) (e : FieldRowView) → slice_get (rows t) i ≡ Some e → right e ≡ true
right_at t i e at = all_at (λ (x : FieldRowView). right x ≡ true) (rows t) i e (each_right (rows t) (rows_right t)) at

typed_at : (es : List FieldRowView) (i : ℕ) (e : FieldRowView) → AreTyped es → slice_get es i ≡ Some e → IsTyped e
typed_at [] i e h at = absurd cc
typed_at (x ∷ es) zero e h at = subst IsTyped (some_is x e at) h.0
typed_at (x ∷ es) (suc i) e h at = typed_at es i e h.1 at

pub parted : {A : Type 0} (xs ys : List A) (k : ℕ) (e : A) → slice_get (xs ++ ys) k ≡ Some e
    → (slice_get xs k ≡ Some e) ⊎ ((i : ℕ) × (k ≡ length xs + i) × (slice_get ys i ≡ Some e))
parted [] ys k e at = inr (k, omega arith, at)
parted (x ∷ xs) ys zero e at = inl at
parted (x ∷ xs) ys (suc k) e at = behind (parted xs ys k e at) where
  behind : (slice_get xs k ≡ Some e) ⊎ ((i : ℕ) × (k ≡ length xs + i) × (slice_get ys i ≡ Some e))
      → (slice_get xs k ≡ Some e) ⊎ ((i : ℕ) × (suc k ≡ suc (length xs) + i) × (slice_get ys i ≡ Some e))
  behind (inl h) = inl h
  behind (inr h) = inr (h.0, (let r = h.1 in omega (arith, r)), h.2)

pub rows_by_node : (s : SceneView) (n : ℕ) (node : SceneNode) → slice_get s.nodes n ≡ Some node → rows_at s n ≡ rows_of (shape_of node)
rows_by_node s n node is =
    ap (λ (o : Option Shape). option_map_or rows_of o [])
    (slice_get-map shape_of s.nodes n ∙ ap (λ (o : Option SceneNode). option_map shape_of o) is)

pub declared_by_node : (s : SceneView) (n : ℕ) (node : SceneNode) → slice_get s.nodes n ≡ Some node → declared_at s n ≡ numbered_fields node.node_type node.declared
declared_by_node s n node is = ap (λ (o : Option SceneNode). option_map_or (λ (m : SceneNode). numbered_fields m.node_type m.declared) o []) is

pub value_by_node : (s : SceneView) (n : ℕ) (node : SceneNode) (field : ℕ) → slice_get s.nodes n ≡ Some node → value_at s n field ≡ value_in node.values field
value_by_node s n node field is = ap (λ (o : Option SceneNode). option_and_then (λ (m : SceneNode). option_and_then (λ v. v) (slice_get m.values field)) o) is

-- of which declaration a field was made
pub declaration_at : (t : NodeType) (ds : List (Declaration ℕ)) (i : ℕ) (e : FieldRowView) → slice_get (map declared_entry (numbered_fields t (map declared_by ds))) i ≡ Some e
    → (d : Declaration ℕ) × (slice_get (numbered_fields t ds) i ≡ Some d) × (e ≡ declaration_entry d)
declaration_at t ds i e at =
    let a = at_map declared_entry (numbered_fields t (map declared_by ds)) i e at in
    let b = at_map declared_by (numbered_fields t ds) i a.0
    (ap (λ (l : List DeclaredField). slice_get l i) (sym (take-map declared_by (most_declared t) ds)) ∙ a.1) in
    (b.0, b.1, a.2 ∙ ap declared_entry b.2)

-- ---- what a node keeps

exposed_initial : (a : Access) (h : Bool) → (is_exposed a && h) ≡ true → is_initial a ≡ true
exposed_initial access.InputOnly h e = absurd cc
exposed_initial access.OutputOnly h e = absurd cc
exposed_initial access.InputOutput h e = refl
exposed_initial access.InitializeOnly h e = absurd cc

record IsKept (state : List Fields) (n field : ℕ) (a : Access) (v : Value) : Type 0 where
  pub fields : Fields
  pub at : slice_get state n ≡ Some fields
  pub held : field_value fields field ≡ Some v
  pub initial : is_initial a ≡ true

-- by what stands at the node's number
kept_at : (state : List Fields) (n field : ℕ) (a : Access) (t : FieldType) (v : Value) (b : Bool) → is_kept a t ≡ b → (o : Option Fields) → slice_get state n ≡ o
    → (if b then option_and_then (λ (fields : Fields). field_value fields field) o else None) ≡ Some v → IsKept state n field a v
kept_at state n field a t v false k o at h = absurd cc
kept_at state n field a t v true k None at h = absurd cc
kept_at state n field a t v true k (Some fields) at h = record { fields = fields; at = at; held = h; initial = exposed_initial a (not (holds_nodes t)) k }

module _ (from : Flat) (s : SceneView) (is_scene : scene_of from ≡ Ok s) (table : (t : NodeType) → AreTyped (rows t)) where
  scene : IsSceneOf from s
  scene = scene_is from s is_scene

  -- of which node of the document it was made
  pub made_of : (n : ℕ) (node : SceneNode) → slice_get s.nodes n ≡ Some node → (flat : FlatNode) × IsNode from.nodes (numbers_of from).numbers (label_in from n) flat node
  made_of n node is =
      let l = within s.nodes n node is in
      let f = found (numbers_of from).order n (omega (arith, l, scene.many)) in
      let m = scene.each n f.0 f.1 in
      let same : m.node ≡ node = some_is m.node node (sym m.node_is ∙ is) in (
        m.flat,
        subst (λ (o : SceneNode). IsNode from.nodes (numbers_of from).numbers (label_in from n) m.flat o) same
            (node_is from.nodes (numbers_of from).numbers (label_in from n) m.flat m.node m.made),
      )

  -- ---- what the scene gives

  pub record IsGiven (e : FieldRowView) (o : Option Value) : Type 0 where
    pub holds : Holds e o
    pub right_row : right e ≡ true

  abbrev By : ℕ → FlatNode → SceneNode → Type 0
  By n flat node = IsNode from.nodes (numbers_of from).numbers (label_in from n) flat node

  row_given : (n : ℕ) (flat : FlatNode) (node : SceneNode) → By n flat node → (k : ℕ) (e : FieldRowView) → slice_get (rows flat.node_type) k ≡ Some e → IsGiven e (value_in node.values k)
  row_given n flat node m k e at = record {
    holds = row_holds from.nodes (numbers_of from).numbers e (given flat.fields k) (value_in node.values k) (typed_at (rows flat.node_type) k e (table flat.node_type) at)
        (right_at flat.node_type k e at) (m.row k e at);
    right_row = right_at flat.node_type k e at;
  }

  field_given : (n : ℕ) (flat : FlatNode) (node : SceneNode) → By n flat node → (i : ℕ) (e : FieldRowView)
      → slice_get (map declared_entry (numbered_fields flat.node_type (map declared_by flat.interface))) i ≡ Some e
      → IsGiven e (value_in node.values (length (rows flat.node_type) + i))
  field_given n flat node m i e at =
      let d = declaration_at flat.node_type flat.interface i e at in
      let k : ℕ = length (rows flat.node_type) + i in
      subst (λ (x : FieldRowView). IsGiven x (value_in node.values k)) (sym d.2) (record {
        holds = (declared_holds from.nodes (numbers_of from).numbers d.0 (given flat.fields k) (value_in node.values k) (m.field i d.0 d.1)).1;
        right_row = declared_right from.nodes (numbers_of from).numbers d.0.access d.0.field_type (is_initial d.0.access) (is_rotation d.0.field_type) refl refl;
      })

  abbrev rows_by : NodeType → List DeclaredField → List FieldRowView
  rows_by t ds = rows t ++ map declared_entry (numbered_fields t ds)

  given_of : (n : ℕ) (flat : FlatNode) (node : SceneNode) → By n flat node → (k : ℕ) (e : FieldRowView) → slice_get (rows_by flat.node_type (map declared_by flat.interface)) k ≡ Some e
      → IsGiven e (value_in node.values k)
  given_of n flat node m k e at = by_part (parted (rows flat.node_type) (map declared_entry (numbered_fields flat.node_type (map declared_by flat.interface))) k e at) where
    by_part : (slice_get (rows flat.node_type) k ≡ Some e)
        ⊎ ((i : ℕ) × (k ≡ length (rows flat.node_type) + i) × (slice_get (map declared_entry (numbered_fields flat.node_type (map declared_by flat.interface))) i ≡ Some e))
        → IsGiven e (value_in node.values k)
    by_part (inl h) = row_given n flat node m k e h
    by_part (inr h) = subst (λ (j : ℕ). IsGiven e (value_in node.values j)) (sym h.1) (field_given n flat node m h.0 e h.2)

  pub given_at : (n : ℕ) (node : SceneNode) → slice_get s.nodes n ≡ Some node → (k : ℕ) (e : FieldRowView) → slice_get (rows_at s n) k ≡ Some e → IsGiven e (value_at s n k)
  given_at n node is k e at =
      let m = made_of n node is in
      let all : rows_of (shape_of node) ≡ rows_by m.0.node_type (map declared_by m.0.interface) =
      ap (λ (t : NodeType). rows_by t node.declared) m.1.node_type ∙ ap (λ (l : List DeclaredField). rows_by m.0.node_type l) m.1.declared in
      subst (IsGiven e) (sym (value_by_node s n node k is))
      (given_of n m.0 node m.1 k e (ap (λ (l : List FieldRowView). slice_get l k) (sym (rows_by_node s n node is ∙ all)) ∙ at))

-- ---- what is written

module _ (from : Flat) (s : SceneView) (state : List Fields) (is_scene : scene_of from ≡ Ok s) (kept : AreKeepable state) (of_type : AreOfType s state) (sound : AreSound s)
    (table : (t : NodeType) → AreTyped (rows t)) where
  kept_is : (n k : ℕ) (a : Access) (t : FieldType) (v : Value) → kept_value (without_routes s state) n k a t ≡ Some v → IsKept state n k a v
  kept_is n k a t v h = kept_at state n k a t v (is_kept a t) refl (slice_get state n) refl h

  pub now_holds : (n : ℕ) (node : SceneNode) → slice_get s.nodes n ≡ Some node → (k : ℕ) (e : FieldRowView) → slice_get (rows_at s n) k ≡ Some e
      → Holds e (value_now s state n k e.access e.field_type)
  now_holds n node is k e at =
      let g = given_at from s is_scene table n node is k e at in
      kept_holds e (kept_value (without_routes s state) n k e.access e.field_type) (value_at s n k) g.right_row
      (λ v h. let x = kept_is n k e.access e.field_type v h in (x.initial, of_type n k e x.fields v at x.at x.held)) g.holds

  either : (P : Value → Type 0) (o p : Option Value) → ((v : Value) → o ≡ Some v → P v) → ((v : Value) → p ≡ Some v → P v) → (v : Value) → option_or o p ≡ Some v → P v
  either P None p f g v h = g v h
  either P (Some x) p f g v h = f v h

  linked_all : (P : ℕ → Type 0) (o : Option Value) → AllByRecursion P (linked o) → (v : Value) → o ≡ Some v → AllByRecursion P (nodes_of v)
  linked_all P o h v e = subst (λ (x : Option Value). AllByRecursion P (linked x)) e h

  pub now_fits : (numbers : List ℕ) → ((m : ℕ) → m < length s.nodes → called numbers m ≡ m) → (n : ℕ) → n < length s.nodes → (k : ℕ) (a : Access) (t : FieldType)
      → IsFit numbers (value_now s state n k a t)
  now_fits numbers in_place n l k a t = record {
    sound = either (λ (v : Value). is_sound v ≡ true) (kept_value (without_routes s state) n k a t) (value_at s n k)
        (λ v h. let x = kept_is n k a t v h in (kept n k x.fields v x.at x.held).0) (λ v h. sound n k v h);
    named = either (λ (v : Value). AllByRecursion (λ (m : ℕ). called numbers m ≡ m) (nodes_of v)) (kept_value (without_routes s state) n k a t) (value_at s n k)
        (λ v h. let x = kept_is n k a t v h in
        subst (AllByRecursion (λ (m : ℕ). called numbers m ≡ m)) (sym (kept n k x.fields v x.at x.held).1) tt)
        (linked_all (λ (m : ℕ). called numbers m ≡ m) (value_at s n k)
        (all_weaker (λ (m : ℕ). m < n) (λ (m : ℕ). called numbers m ≡ m) (λ m h. in_place m (omega (arith, h, l))) (linked (value_at s n k)) (children_lower from s is_scene n k)));
  }
