-- The scene that is read again, node by node.
use Rattle.std.proofs.Common.{◌≡◌, ℕ, zero, suc, ◌+◌, ◌<◌, if◌then◌else◌, List, [], ◌∷◌, ◌++◌, length, map, Option, Some, None, Ok, slice_get, refl, sym, ap, subst, ◌∙◌, ◌⊎◌, inl, inr, arith}
use Rattle.std.specs.Prelude.{option_map}
use Rattle.std.specs.List.{range_with_len}
use Rattle.std.specs.Option.{option_map_or}
use Rattle.std.proofs.lemmas.List.{length-map, take-map}
use Rattle.std.proofs.lemmas.Option.{slice_get-map}
use Rattle.x3d_values.specs.declared.fields.Fields.{Fields}
use Rattle.x3d_values.specs.declared.node_type.NodeType.{NodeType}
use Rattle.x3d_values.specs.declared.node_type.NodeType.TheVariants.{Switch}
use Rattle.x3d_values.specs.declared.value.Value.{Value}
use Rattle.x3d_values.specs.Access.{is_initial}
use Rattle.x3d_values.specs.Tables.{AreTyped, FieldRowView, rows}
use Rattle.classic_tree.specs.declared.tree.Declaration.{Declaration}
use Rattle.proto_flat.specs.declared.flat.Flat.{Flat}
use Rattle.proto_flat.specs.declared.flat.FlatField.{FlatField}
use Rattle.proto_flat.specs.declared.flat.FlatNode.{FlatNode}
use Rattle.scene_values.specs.Typing.{called}
use Rattle.scene_core.specs.declared.numbering.Numbering.{Numbering}
use Rattle.scene_core.specs.declared.row.DeclaredField.{DeclaredField}
use Rattle.scene_core.specs.declared.scene.Route.{Route}
use Rattle.scene_core.specs.declared.scene.SceneNode.{SceneNode}
use Rattle.scene_core.specs.Building.{scene_of}
use Rattle.scene_core.specs.Parts.{given, parts, parts_of}
use Rattle.scene_core.specs.Scene.{SceneView, declared_at, rows_at, shape_of, types_of, value_at}
use Rattle.scene_core.specs.Shape.{Shape, declaration_entry, declared_by, declared_entry, most_declared, numbered_fields, rows_of}
use Rattle.scene_core.specs.Typed.{declared_value, field_value}
use Rattle.laws_written.specs.ScenesAgain.{in_place}
use Rattle.laws_written.specs.Children.{children}
use Rattle.laws_written.proofs.NumberedLists.{In, at_map, index_is, some_is, within}
use Rattle.laws_written.proofs.Lower.{inner}
use Rattle.laws_written.proofs.NumberedScenes.{IsSceneOf, found, label_in, numbers_of}
use Rattle.laws_written.specs.Defaults.{LeftOutAreDefaults}
use Rattle.laws_written.specs.Values.{WrittenNodesAreTyped}
use Rattle.laws_written.specs.Writable.{AreKeepable}
use Rattle.laws_written.specs.NodesFlats.{IsFlatOf}
use Rattle.laws_written.specs.Nodes.{in_switch, switch_root, written_nodes, written_roots}
use Rattle.laws_written.specs.Fields.{unless_default, value_now}
use Rattle.laws_written.specs.FieldsFlats.{HasFieldsOf}
use Rattle.laws_written.specs.Again.{switch_type}
use Rattle.laws_written.specs.Sound.{AreOfType, AreSound}
use Rattle.laws_written.proofs.Given.{declared_given, given_by, row_given}
use Rattle.laws_written.proofs.Holding.{Holds}
use Rattle.laws_written.proofs.Made.{IsDeclaredMade, IsNode, IsRowMade, node_is, value_in}
use Rattle.laws_written.proofs.AgainNumbered.{IsAgain, again_is, last_is, many, numbered_in_place}
use Rattle.laws_written.proofs.Places.{joined_is, mapped_at, range_at}
use Rattle.laws_written.proofs.Present.{declared_by_node, now_fits, now_holds, parted, rows_by_node, value_by_node}
use Rattle.laws_written.proofs.Reading.{IsFit, declared_again, row_again}

called_same : (numbers : List ℕ) (xs : List ℕ) → ((x : ℕ) → In x xs → called numbers x ≡ x) → map (called numbers) xs ≡ xs
called_same numbers [] k = refl
called_same numbers (x ∷ xs) k =
    ap (λ (y : ℕ). y ∷ map (called numbers) xs) (k x (inl refl)) ∙ ap (λ (l : List ℕ). x ∷ l) (called_same numbers xs (λ y n. k y (inr n)))

-- declarations that say the same are in the same places
declared_there : (t : NodeType) (ds : List (Declaration ℕ)) (es : List DeclaredField) → map declared_by (numbered_fields t ds) ≡ es → (i : ℕ) (e : DeclaredField) → slice_get es i ≡ Some e
    → (d : Declaration ℕ) × (slice_get (numbered_fields t ds) i ≡ Some d) × (declared_by d ≡ e)
declared_there t ds es h i e at =
    let m : length es ≡ length (numbered_fields t ds) = ap (λ (l : List DeclaredField). length l) (sym h) ∙ length-map (numbered_fields t ds) declared_by in
    let l = within es i e at in
    let f = found (numbered_fields t ds) i (omega (arith, m, l)) in (
      f.0,
      f.1,
      some_is (declared_by f.0) e
          (sym (mapped_at declared_by (numbered_fields t ds) i f.0 f.1) ∙ (ap (λ (l : List DeclaredField). slice_get l i) h ∙ at)),
    )

module _ (from : Flat) (s : SceneView) (routes : List Route) (state : List Fields) (again : Flat) (is_scene : scene_of from ≡ Ok s) (kept : AreKeepable state)
    (of_type : AreOfType s state) (sound : AreSound s) (table : (t : NodeType) → AreTyped (rows t)) (same : IsFlatOf s routes again) (filled : HasFieldsOf s state again)
    (none : again.helpers ≡ []) (next : SceneView) (scene : IsSceneOf again next) (typed_again : WrittenNodesAreTyped) (left_out : LeftOutAreDefaults) where
  abbrev pub count : ℕ
  count = length s.nodes

  abbrev pub numbers : List ℕ
  numbers = (numbers_of again).numbers

  placed : numbers_of again ≡ in_place (length again.nodes)
  placed = numbered_in_place from s routes state again is_scene kept of_type sound table same filled none

  as_many : length again.nodes ≡ count + length (switch_root count s.helpers)
  as_many = many from s routes state again is_scene kept of_type sound table same filled none

  pub in_order : (i : ℕ) → i < length again.nodes → slice_get (numbers_of again).order i ≡ Some i
  in_order i l =
      let here : 0 + i ≡ i = omega arith in
      ap (λ (x : Numbering). slice_get x.order i) placed ∙ (range_at 0 (length again.nodes) i l ∙ ap (λ (k : ℕ). Some k) here)

  pub called_in_place : (i : ℕ) → i < length again.nodes → called numbers i ≡ i
  called_in_place i l =
      let here : 0 + i ≡ i = omega arith in
      ap (λ (x : Numbering). called x.numbers i) placed
      ∙ index_is (range_with_len 0 (length again.nodes)) i i 0 (range_at 0 (length again.nodes) i l ∙ ap (λ (k : ℕ). Some k) here)

  pub next_many : length next.nodes ≡ length again.nodes
  next_many =
      scene.many ∙ (ap (λ (x : Numbering). length x.order) placed ∙ range_long 0 (length again.nodes)) where
        range_long : (from count : ℕ) → length (range_with_len from count) ≡ count
        range_long from zero = refl
        range_long from (suc count) = ap (λ (k : ℕ). suc k) (range_long (from + 1) count)

  -- of which node it was made
  pub record IsRead (n : ℕ) (g : FlatNode) (m : SceneNode) : Type 0 where
    pub is : IsNode again.nodes numbers (label_in again n) g m
    pub inside : children m ≡ parts g

  pub read_is : (n : ℕ) (g : FlatNode) (m : SceneNode) → slice_get again.nodes n ≡ Some g → slice_get next.nodes n ≡ Some m → IsRead n g m
  unfolding parts_of
  read_is n g m at there =
      let l = within again.nodes n g at in
      let made = scene.each n n (in_order n l) in
      let same_flat : made.flat ≡ g = some_is made.flat g (sym made.flat_is ∙ at) in
      let same_node : made.node ≡ m = some_is made.node m (sym made.node_is ∙ there) in
      let i = inner again next scene n n made in
      let inside : children made.node ≡ parts_of again.nodes n =
      i.linked_are ∙ called_same numbers (parts_of again.nodes n) (λ y k. called_in_place y (i.valid y k)) in
      subst (IsRead n g) same_node (record {
        is = subst (λ (f : FlatNode). IsNode again.nodes numbers (label_in again n) f made.node) same_flat
            (node_is again.nodes numbers (label_in again n) made.flat made.node made.made);
        inside = inside ∙ ap (λ (o : Option FlatNode). option_map_or parts o []) at;
      })

  -- the n-th node of all three
  pub record AreThree (n : ℕ) (node : SceneNode) : Type 0 where
    pub g : FlatNode
    pub m : SceneNode
    pub flat_at : slice_get again.nodes n ≡ Some g
    pub next_at : slice_get next.nodes n ≡ Some m
    pub flat_is : IsAgain from s routes state again is_scene kept of_type sound table same filled none n node g
    pub read : IsRead n g m

  pub three : (n : ℕ) (node : SceneNode) → slice_get s.nodes n ≡ Some node → AreThree n node
  three n node is =
      let l = within s.nodes n node is in
      let f = found again.nodes n (omega (arith, as_many, l)) in
      let m = found next.nodes n (omega (arith, as_many, next_many, l)) in
      record {
        g = f.0;
        m = m.0;
        flat_at = f.1;
        next_at = m.1;
        flat_is = again_is from s routes state again is_scene kept of_type sound table same filled none n node f.0 is f.1;
        read = read_is n f.0 m.0 f.1 m.1;
      }

  -- ---- roots and helpers

  pub next_roots : next.roots ≡ written_roots s
  next_roots =
      scene.roots ∙ (called_same numbers again.roots (λ x k. called_in_place x (scene.roots_low x k)) ∙ same.roots)

  pub next_helpers : next.helpers ≡ []
  next_helpers = scene.helpers ∙ ap (map (called numbers)) none

  -- ---- types, and the nodes in nodes

  switch_long : (hs : List ℕ) → length (switch_type hs) ≡ length (switch_root count hs)
  switch_long [] = refl
  switch_long (h ∷ hs) = refl

  in_switch_long : (hs : List ℕ) → length (in_switch hs) ≡ length (switch_root count hs)
  in_switch_long [] = refl
  in_switch_long (h ∷ hs) = refl

  -- of the last node, where there are helpers
  last_read : (h : ℕ) (hs : List ℕ) (m : SceneNode) → s.helpers ≡ h ∷ hs → slice_get next.nodes count ≡ Some m → (m.node_type ≡ Switch) × (children m ≡ h ∷ hs)
  last_read h hs m e at =
      let l = within next.nodes count m at in
      let f = found again.nodes count (omega (arith, next_many, l)) in
      let g = last_is from s routes state again is_scene kept of_type sound table same filled none h hs f.0 e f.1 in
      let r = read_is count f.0 m f.1 at in
      (r.is.node_type ∙ g.node_type, r.inside ∙ g.inside)

  last_type : (hs : List ℕ) → s.helpers ≡ hs → (i : ℕ) (m : SceneNode) (t : NodeType) → slice_get next.nodes (count + i) ≡ Some m → slice_get (switch_type hs) i ≡ Some t → m.node_type ≡ t
  last_type [] e i m t at there = absurd cc
  last_type (h ∷ hs) e zero m t at there =
      let here : count + 0 ≡ count = omega arith in
      (last_read h hs m e (ap (λ (k : ℕ). slice_get next.nodes k) (sym here) ∙ at)).0 ∙ some_is Switch t there
  last_type (h ∷ hs) e (suc i) m t at there = absurd cc

  last_inside : (hs : List ℕ) → s.helpers ≡ hs → (i : ℕ) (m : SceneNode) (ns : List ℕ) → slice_get next.nodes (count + i) ≡ Some m → slice_get (in_switch hs) i ≡ Some ns → children m ≡ ns
  last_inside [] e i m ns at there = absurd cc
  last_inside (h ∷ hs) e zero m ns at there =
      let here : count + 0 ≡ count = omega arith in
      (last_read h hs m e (ap (λ (k : ℕ). slice_get next.nodes k) (sym here) ∙ at)).1 ∙ some_is (h ∷ hs) ns there
  last_inside (h ∷ hs) e (suc i) m ns at there = absurd cc

  abbrev type_of_node : SceneNode → NodeType
  type_of_node node = node.node_type

  own_type : (i : ℕ) (m node : SceneNode) → slice_get next.nodes i ≡ Some m → slice_get s.nodes i ≡ Some node → m.node_type ≡ node.node_type
  own_type i m node at is =
      let x = three i node is in
      ap type_of_node (some_is m x.m (sym at ∙ x.next_at)) ∙ (x.read.is.node_type ∙ x.flat_is.node_type)

  own_inside : (i : ℕ) (m node : SceneNode) → slice_get next.nodes i ≡ Some m → slice_get s.nodes i ≡ Some node → children m ≡ children node
  own_inside i m node at is =
      let x = three i node is in
      ap children (some_is m x.m (sym at ∙ x.next_at)) ∙ (x.read.inside ∙ x.flat_is.inside)

  node_of_made : {B : Type 0} (f : SceneNode → B) (i : ℕ) (y : B) → slice_get (map f s.nodes) i ≡ Some y → (node : SceneNode) × (slice_get s.nodes i ≡ Some node) × (f node ≡ y)
  node_of_made {B = B} f i y at =
      let m = length-map s.nodes f in
      let l = within (map f s.nodes) i y at in
      let n = found s.nodes i (omega (arith, m, l)) in
      (n.0, n.1, some_is (f n.0) y (sym (mapped_at f s.nodes i n.0 n.1) ∙ at))

  pub next_types : types_of next ≡ types_of s ++ switch_type s.helpers
  next_types =
      let a = length-map s.nodes type_of_node in
      let b = switch_long s.helpers in
      joined_is type_of_node next.nodes (types_of s) (switch_type s.helpers) (omega (arith, as_many, next_many, a, b))
      (λ i m t at there. let x = node_of_made type_of_node i t there in own_type i m x.0 at x.1 ∙ x.2)
      (λ i m t at there. last_type s.helpers refl i m t (ap (λ (k : ℕ). slice_get next.nodes (k + i)) (sym a) ∙ at) there)

  pub next_children : map children next.nodes ≡ written_nodes s
  next_children =
      let a = length-map s.nodes children in
      let b = in_switch_long s.helpers in
      joined_is children next.nodes (map children s.nodes) (in_switch s.helpers) (omega (arith, as_many, next_many, a, b))
      (λ i m t at there. let x = node_of_made children i t there in own_inside i m x.0 at x.1 ∙ x.2)
      (λ i m t at there. last_inside s.helpers refl i m t (ap (λ (k : ℕ). slice_get next.nodes (k + i)) (sym a) ∙ at) there)

  pub next_declared : (n : ℕ) → n < count → declared_at next n ≡ declared_at s n
  next_declared n l =
      let node = found s.nodes n l in
      let x = three n node.0 node.1 in
      let t : NodeType = node.0.node_type in
      declared_by_node next n x.m x.next_at
      ∙ (ap (λ (u : NodeType). numbered_fields u x.m.declared) (x.read.is.node_type ∙ x.flat_is.node_type)
      ∙ (ap (λ (ds : List DeclaredField). numbered_fields t ds) x.read.is.declared
      ∙ (take-map declared_by (most_declared t) x.g.interface ∙ x.flat_is.numbered)))

  pub next_rows : (n : ℕ) → n < count → rows_at next n ≡ rows_at s n
  next_rows n l =
      let node = found s.nodes n l in
      let x = three n node.0 node.1 in
      let t : NodeType = node.0.node_type in
      let same_type : x.m.node_type ≡ t = x.read.is.node_type ∙ x.flat_is.node_type in
      let own : numbered_fields x.m.node_type x.m.declared ≡ numbered_fields t node.0.declared =
      sym (declared_by_node next n x.m x.next_at) ∙ (next_declared n l ∙ declared_by_node s n node.0 node.1) in
      rows_by_node next n x.m x.next_at
      ∙ (ap (λ (ds : List DeclaredField). rows x.m.node_type ++ map declared_entry ds) own
      ∙ (ap (λ (u : NodeType). rows u ++ map declared_entry (numbered_fields t node.0.declared)) same_type
      ∙ sym (rows_by_node s n node.0 node.1)))

  -- ---- values

  fits_now : (n : ℕ) → n < count → (k : ℕ) (e : FieldRowView) → IsFit numbers (value_now s state n k e.access e.field_type)
  fits_now n l k e =
      now_fits from s state is_scene kept of_type sound table numbers (λ m h. called_in_place m (omega (arith, as_many, h))) n l k e.access e.field_type

  holds_now : (n : ℕ) (node : SceneNode) → slice_get s.nodes n ≡ Some node → (k : ℕ) (e : FieldRowView) → slice_get (rows_at s n) k ≡ Some e
      → Holds e (value_now s state n k e.access e.field_type)
  holds_now = now_holds from s state is_scene kept of_type sound table

  row_value : (n : ℕ) (node : SceneNode) → slice_get s.nodes n ≡ Some node → AreThree n node → (k : ℕ) (e : FieldRowView) → slice_get (rows_at s n) k ≡ Some e
      → slice_get (rows node.node_type) k ≡ Some e → value_at next n k ≡ value_now s state n k e.access e.field_type
  row_value n node is x k e at own =
      let l = within s.nodes n node is in
      let made : IsRowMade again.nodes numbers x.g.fields e k (value_in x.m.values k) =
      x.read.is.row k e (ap (λ (t : NodeType). slice_get (rows t) k) x.flat_is.node_type ∙ own) in
      let now : Option Value = value_now s state n k e.access e.field_type in
      let there : given x.g.fields k ≡ given_by k (unless_default e.default now) =
      ap (λ (l : List FlatField). given l k) x.flat_is.fields_same ∙ row_given s state n (rows node.node_type) (declared_at s n) k e own in
      value_by_node next n x.m k x.next_at
      ∙ row_again typed_again left_out again.nodes numbers e k now (value_in x.m.values k) (holds_now n node is k e at) (fits_now n l k e)
      (ap (λ (o : Option FlatField). field_value again.nodes numbers e o) (sym there) ∙ made)

  field_of_value : (n : ℕ) (node : SceneNode) → slice_get s.nodes n ≡ Some node → (x : AreThree n node) → (i : ℕ) (d : Declaration ℕ)
      → slice_get (numbered_fields node.node_type x.g.interface) i ≡ Some d → slice_get (declared_at s n) i ≡ Some (declared_by d)
      → slice_get (rows_at s n) (length (rows node.node_type) + i) ≡ Some (declaration_entry d)
      → value_at next n (length (rows node.node_type) + i) ≡ value_now s state n (length (rows node.node_type) + i) d.access d.field_type
  field_of_value n node is x i d at there row =
      let l = within s.nodes n node is in
      let t : NodeType = node.node_type in
      let k : ℕ = length (rows t) + i in
      let now : Option Value = value_now s state n k d.access d.field_type in
      let made : IsDeclaredMade again.nodes numbers x.g.fields d k (value_in x.m.values k) =
      subst (λ (u : NodeType). IsDeclaredMade again.nodes numbers x.g.fields d (length (rows u) + i) (value_in x.m.values (length (rows u) + i))) x.flat_is.node_type
      (x.read.is.field i d (ap (λ (u : NodeType). slice_get (numbered_fields u x.g.interface) i) x.flat_is.node_type ∙ at)) in
      let shown : given x.g.fields k ≡ given_by k (if is_initial d.access then now else None) =
      ap (λ (l : List FlatField). given l k) x.flat_is.fields_same ∙ declared_given s state n (rows t) (declared_at s n) i (declared_by d) there in
      value_by_node next n x.m k x.next_at
      ∙ declared_again typed_again left_out again.nodes numbers d k now (value_in x.m.values k) (holds_now n node is k (declaration_entry d) row)
      (fits_now n l k (declaration_entry d))
      (ap (λ (o : Option FlatField). declared_value again.nodes numbers d o) (sym shown) ∙ made)

  rows_split : (n : ℕ) (node : SceneNode) → slice_get s.nodes n ≡ Some node → rows_at s n ≡ rows node.node_type ++ map declared_entry (declared_at s n)
  rows_split n node is =
      rows_by_node s n node is ∙ ap (λ (l : List DeclaredField). rows node.node_type ++ map declared_entry l) (sym (declared_by_node s n node is))

  field_value_at : (n : ℕ) (node : SceneNode) → slice_get s.nodes n ≡ Some node → AreThree n node → (i : ℕ) (e : FieldRowView) → slice_get (map declared_entry (declared_at s n)) i ≡ Some e
      → slice_get (rows_at s n) (length (rows node.node_type) + i) ≡ Some e
      → value_at next n (length (rows node.node_type) + i) ≡ value_now s state n (length (rows node.node_type) + i) e.access e.field_type
  field_value_at n node is x i e at row =
      let k : ℕ = length (rows node.node_type) + i in
      let f = at_map declared_entry (declared_at s n) i e at in
      let d = declared_there node.node_type x.g.interface (declared_at s n) x.flat_is.numbered i f.0 f.1 in
      let same_entry : e ≡ declaration_entry d.0 = f.2 ∙ ap declared_entry (sym d.2) in
      let there : slice_get (declared_at s n) i ≡ Some (declared_by d.0) = f.1 ∙ ap (λ (y : DeclaredField). Some y) (sym d.2) in
      subst (λ (y : FieldRowView). value_at next n k ≡ value_now s state n k y.access y.field_type) (sym same_entry)
      (field_of_value n node is x i d.0 d.1 there (row ∙ ap (λ (y : FieldRowView). Some y) same_entry))

  value_of_node : (n : ℕ) (node : SceneNode) → slice_get s.nodes n ≡ Some node → AreThree n node → (field : ℕ) (e : FieldRowView) → slice_get (rows_at s n) field ≡ Some e
      → value_at next n field ≡ value_now s state n field e.access e.field_type
  value_of_node n node is x field e at =
      by_part (parted (rows node.node_type) (map declared_entry (declared_at s n)) field e (ap (λ (l : List FieldRowView). slice_get l field) (sym (rows_split n node is)) ∙ at)) where
        by_part : (slice_get (rows node.node_type) field ≡ Some e)
            ⊎ ((i : ℕ) × (field ≡ length (rows node.node_type) + i) × (slice_get (map declared_entry (declared_at s n)) i ≡ Some e))
            → value_at next n field ≡ value_now s state n field e.access e.field_type
        by_part (inl own) = row_value n node is x field e at own
        by_part (inr h) =
            subst (λ (k : ℕ). value_at next n k ≡ value_now s state n k e.access e.field_type) (sym h.1)
            (field_value_at n node is x h.0 e h.2 (ap (λ (k : ℕ). slice_get (rows_at s n) k) (sym h.1) ∙ at))

  no_rows : (n : ℕ) → slice_get s.nodes n ≡ None → rows_at s n ≡ []
  no_rows n is =
      ap (λ (o : Option Shape). option_map_or rows_of o [])
      (slice_get-map shape_of s.nodes n ∙ ap (λ (o : Option SceneNode). option_map shape_of o) is)

  pub next_values : (n field : ℕ) (e : FieldRowView) → slice_get (rows_at s n) field ≡ Some e → value_at next n field ≡ value_now s state n field e.access e.field_type
  next_values n field e at = by_node (slice_get s.nodes n) refl where
    by_node : (o : Option SceneNode) → slice_get s.nodes n ≡ o → value_at next n field ≡ value_now s state n field e.access e.field_type
    by_node None is = let gone : slice_get [] field ≡ Some e = ap (λ (l : List FieldRowView). slice_get l field) (sym (no_rows n is)) ∙ at in absurd cc
    by_node (Some node) is = value_of_node n node is (three n node is) field e at
