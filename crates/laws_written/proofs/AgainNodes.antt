-- The nodes of the flat form of a written scene are read without a fault.
use Rattle.std.proofs.Common.{◌≡◌, ℕ, zero, suc, ◌+◌, ◌<◌, ◌≤◌, ◌==◌, Bool, true, false, if◌then◌else◌, List, [], ◌∷◌, ◌++◌, length, map, take, Option, Some, None, Ok, slice_get, refl, sym, ap, subst, ◌∙◌, arith, eqb-true}
use Rattle.std.specs.List.{AllByRecursion, range_with_len}
use Rattle.x3d_values.specs.declared.field_type.FieldType.TheVariants as types
use Rattle.x3d_values.specs.declared.fields.Fields.{Fields}
use Rattle.x3d_values.specs.declared.node_type.NodeKind.{NodeKind}
use Rattle.x3d_values.specs.declared.node_type.NodeKind.TheVariants.{Child}
use Rattle.x3d_values.specs.declared.node_type.NodeType.{NodeType}
use Rattle.x3d_values.specs.declared.node_type.NodeType.TheVariants.{Switch}
use Rattle.x3d_values.specs.declared.value.Value.{Value}
use Rattle.x3d_values.specs.declared.value.Value.TheVariants.{MFNode}
use Rattle.x3d_values.specs.Access.{is_initial}
use Rattle.x3d_values.specs.Tables.{AreTyped, FieldRowView, rows}
use Rattle.x3d_values.specs.Values.{nodes_of}
use Rattle.classic_tree.specs.declared.tree.Declaration.{Declaration}
use Rattle.proto_flat.specs.declared.flat.Flat.{Flat}
use Rattle.proto_flat.specs.declared.flat.FlatField.{FlatField}
use Rattle.proto_flat.specs.declared.flat.FlatNode.{FlatNode}
use Rattle.scene_values.specs.Typing.{called}
use Rattle.scene_core.specs.declared.numbering.Numbering.{Numbering}
use Rattle.scene_core.specs.declared.row.DeclaredField.{DeclaredField}
use Rattle.scene_core.specs.declared.scene.Route.{Route}
use Rattle.scene_core.specs.declared.scene.SceneNode.{SceneNode}
use Rattle.scene_core.specs.Building.{scene_of}
use Rattle.scene_core.specs.Faults.{◌>>=◌}
use Rattle.scene_core.specs.Parts.{given}
use Rattle.scene_core.specs.Scene.{SceneView, declared_at, rows_at}
use Rattle.scene_core.specs.Shape.{declaration_entry, declared_by, declared_entry, is_rotation, most_declared, numbered_fields}
use Rattle.scene_core.specs.Typed.{declared_from, declared_value, field_value, takes, values_from, values_of}
use Rattle.laws_written.specs.ScenesAgain.{in_place}
use Rattle.laws_written.proofs.NumberedLists.{index_is, some_is, within}
use Rattle.laws_written.proofs.NumberedScenes.{found, numbers_of}
use Rattle.laws_written.specs.Defaults.{DefaultsAreLeftOut}
use Rattle.laws_written.specs.Values.{WrittenNodesAreTyped, is_sound}
use Rattle.laws_written.specs.Writable.{AreKeepable}
use Rattle.laws_written.proofs.Lists.{all_weaker}
use Rattle.laws_written.specs.NodesFlats.{IsFlatOf}
use Rattle.laws_written.specs.Nodes.{switch_root}
use Rattle.laws_written.proofs.Plans.{helpers_there}
use Rattle.laws_written.specs.Fields.{children_field, switch_children, unless_default, value_now}
use Rattle.laws_written.specs.FieldsFlats.{HasFieldsOf}
use Rattle.laws_written.specs.Sound.{AreOfType, AreSound}
use Rattle.laws_written.proofs.Given.{declared_given, given_by, row_given}
use Rattle.laws_written.proofs.Holding.{Holds, declared_holds}
use Rattle.laws_written.proofs.Made.{behind, front, value_in}
use Rattle.laws_written.proofs.AgainNumbered.{IsAgain, again_is, last_is, many, numbered_in_place}
use Rattle.laws_written.proofs.Places.{mapped_at, range_at}
use Rattle.laws_written.proofs.Present.{declaration_at, declared_by_node, made_of, now_fits, now_holds, rows_by_node}
use Rattle.laws_written.proofs.Reading.{IsFit}
use Rattle.laws_written.specs.Exist.{AreInRange}
use Rattle.laws_written.proofs.Okay.{IsOkay, declared_okay, okay_then, rows_okay}
use Rattle.laws_written.proofs.ExistPresent.{now_given, now_inside}
use Rattle.laws_written.proofs.ExistReading.{declared_read, given_okay, nothing_okay, row_okay}
use Rattle.laws_written.proofs.Standing.{IsOfKind, goes_into, helpers_kind, takes_is}

none_taken : {A : Type 0} (k : ℕ) (xs : List A) → xs ≡ [] → take k xs ≡ []
none_taken zero [] e = refl
none_taken (suc k) [] e = refl
none_taken k (x ∷ xs) e = absurd cc

none_at : {A : Type 0} (xs : List A) (i : ℕ) (x : A) → xs ≡ [] → slice_get xs i ≡ Some x → ⊥
none_at [] i x e at = absurd cc
none_at (y ∷ xs) i x e at = absurd cc

beyond : {A : Type 0} (xs : List A) (i : ℕ) → slice_get xs i ≡ None → length xs ≤ i
beyond [] i at = omega arith
beyond (x ∷ xs) zero at = absurd cc
beyond (x ∷ xs) (suc i) at = let r = beyond xs i at in omega (arith, r)

-- the row of the children
children_type : (e : FieldRowView) → slice_get (rows Switch) switch_children ≡ Some e → types.MFNode ≡ e.field_type
children_type e at = ap (λ (y : FieldRowView). y.field_type) (some_is _ e at)

children_initial : (e : FieldRowView) → slice_get (rows Switch) switch_children ≡ Some e → true ≡ is_initial e.access
children_initial e at = ap (λ (y : FieldRowView). is_initial y.access) (some_is _ e at)

children_kind : (e : FieldRowView) → slice_get (rows Switch) switch_children ≡ Some e → Some Child ≡ e.kind
children_kind e at = ap (λ (y : FieldRowView). y.kind) (some_is _ e at)

module _ (typed_again : WrittenNodesAreTyped) (all : List FlatNode) (numbers : List ℕ) where
  -- a node of that type is made, where its fields are
  values_okay : (g : FlatNode) (t : NodeType) → g.node_type ≡ t
      → ((i : ℕ) (e : FieldRowView) → slice_get (rows t) i ≡ Some e → IsOkay (field_value all numbers e (given g.fields i)))
      → ((i : ℕ) (d : Declaration ℕ) → slice_get (numbered_fields t g.interface) i ≡ Some d → IsOkay (declared_value all numbers d (given g.fields (length (rows t) + i))))
      → IsOkay (values_of all numbers g)
  unfolding values_of
  values_okay g t type_is own more =
      subst (λ (u : NodeType). IsOkay (values_from all numbers g.fields 0 (rows u) [] >>= declared_from all numbers g.fields (length (rows u)) (numbered_fields u g.interface))) (sym type_is)
      (okay_then (values_from all numbers g.fields 0 (rows t) []) (declared_from all numbers g.fields (length (rows t)) (numbered_fields t g.interface))
      (rows_okay all numbers g.fields 0 (rows t) [] (λ i e at.
      (let here : i ≡ 0 + i = omega arith in subst (λ (j : ℕ). IsOkay (field_value all numbers e (given g.fields j))) here (own i e at))))
      (λ made. declared_okay all numbers g.fields (length (rows t)) (numbered_fields t g.interface) made more))

  -- ---- the node in which the helpers stand

  module _ (h : ℕ) (hs : List ℕ) (named : AllByRecursion (λ (n : ℕ). called numbers n ≡ n) (h ∷ hs))
      (children : AllByRecursion (λ (m : ℕ). takes (Some Child) (slice_get all m) ≡ true) (h ∷ hs)) where
    fit : IsFit numbers (Some (MFNode (h ∷ hs)))
    fit = record {
      sound = λ v e. subst (λ (x : Value). is_sound x ≡ true) (some_is (MFNode (h ∷ hs)) v e) refl;
      named = λ v e. subst (λ (x : Value). AllByRecursion (λ (n : ℕ). called numbers n ≡ n) (nodes_of x)) (some_is (MFNode (h ∷ hs)) v e) named;
    }

    switch_row : (i : ℕ) (e : FieldRowView) → slice_get (rows Switch) i ≡ Some e → IsOkay (field_value all numbers e (given (children_field (h ∷ hs) ∷ []) i))
    switch_row i e at = by_field (switch_children == i) refl where
      by_field : (b : Bool) → (switch_children == i) ≡ b → IsOkay (field_value all numbers e (if b then Some (children_field (h ∷ hs)) else None))
      by_field true k =
          let here : switch_children ≡ i = eqb-true switch_children i k in
          let row : slice_get (rows Switch) switch_children ≡ Some e = ap (λ (j : ℕ). slice_get (rows Switch) j) here ∙ at in
          given_okay typed_again all numbers e switch_children (MFNode (h ∷ hs)) (children_type e row) fit (sym (children_initial e row)) refl
          (subst (λ (kind : Option NodeKind). AllByRecursion (λ (m : ℕ). takes kind (slice_get all m) ≡ true) (h ∷ hs)) (children_kind e row) children)
      by_field false k = nothing_okay typed_again all numbers e

    pub switch_okay : (g : FlatNode) → g.node_type ≡ Switch → g.fields ≡ children_field (h ∷ hs) ∷ [] → g.interface ≡ [] → IsOkay (values_of all numbers g)
    switch_okay g t f n =
        values_okay g Switch t (λ i e at. subst (λ (l : List FlatField). IsOkay (field_value all numbers e (given l i))) (sym f) (switch_row i e at))
        (λ i d at. absurd (none_at (numbered_fields Switch g.interface) i d (none_taken (most_declared Switch) g.interface n) at))

module _ (from : Flat) (s : SceneView) (routes : List Route) (state : List Fields) (again : Flat) (is_scene : scene_of from ≡ Ok s) (kept : AreKeepable state)
    (of_type : AreOfType s state) (ranged : AreInRange s state) (sound : AreSound s) (table : (t : NodeType) → AreTyped (rows t)) (same : IsFlatOf s routes again)
    (filled : HasFieldsOf s state again) (none : again.helpers ≡ []) (typed_again : WrittenNodesAreTyped) (all_left : DefaultsAreLeftOut) where
  abbrev count : ℕ
  count = length s.nodes

  abbrev numbers : List ℕ
  numbers = (numbers_of again).numbers

  placed : numbers_of again ≡ in_place (length again.nodes)
  placed = numbered_in_place from s routes state again is_scene kept of_type sound table same filled none

  as_many : length again.nodes ≡ count + length (switch_root count s.helpers)
  as_many = many from s routes state again is_scene kept of_type sound table same filled none

  called_in_place : (i : ℕ) → i < length again.nodes → called numbers i ≡ i
  called_in_place i l =
      let here : 0 + i ≡ i = omega arith in
      ap (λ (x : Numbering). called x.numbers i) placed
      ∙ index_is (range_with_len 0 (length again.nodes)) i i 0 (range_at 0 (length again.nodes) i l ∙ ap (λ (k : ℕ). Some k) here)

  again_at : (n : ℕ) (node : SceneNode) (g : FlatNode) → slice_get s.nodes n ≡ Some node → slice_get again.nodes n ≡ Some g
      → IsAgain from s routes state again is_scene kept of_type sound table same filled none n node g
  again_at = again_is from s routes state again is_scene kept of_type sound table same filled none

  -- ---- kinds

  taken_by : (kind : Option NodeKind) (m : ℕ) → IsOfKind s kind m → takes kind (slice_get again.nodes m) ≡ true
  taken_by kind m h =
      let l = within s.nodes m h.node h.at in
      let g = found again.nodes m (omega (arith, as_many, l)) in
      let a = again_at m h.node g.0 h.at g.1 in
      ap (λ (o : Option FlatNode). takes kind o) g.1 ∙ (takes_is kind g.0 ∙ (ap (λ (t : NodeType). goes_into kind t) a.node_type ∙ h.goes))

  pub all_taken_by : (kind : Option NodeKind) (ns : List ℕ) → AllByRecursion (IsOfKind s kind) ns → AllByRecursion (λ (m : ℕ). takes kind (slice_get again.nodes m) ≡ true) ns
  all_taken_by kind ns h = all_weaker (IsOfKind s kind) (λ (m : ℕ). takes kind (slice_get again.nodes m) ≡ true) (taken_by kind) ns h

  -- ---- a node of the scene

  fits_at : (n : ℕ) (node : SceneNode) → slice_get s.nodes n ≡ Some node → (k : ℕ) (e : FieldRowView) (x : Value) → value_now s state n k e.access e.field_type ≡ Some x
      → IsFit numbers (Some x)
  fits_at n node is k e x held =
      subst (IsFit numbers) held
      (now_fits from s state is_scene kept of_type sound table numbers (λ m h. called_in_place m (omega (arith, as_many, h))) n (within s.nodes n node is) k e.access e.field_type)

  holds_at : (n : ℕ) (node : SceneNode) → slice_get s.nodes n ≡ Some node → (k : ℕ) (e : FieldRowView) → slice_get (rows_at s n) k ≡ Some e
      → Holds e (value_now s state n k e.access e.field_type)
  holds_at = now_holds from s state is_scene kept of_type sound table

  row_read : (n : ℕ) (node : SceneNode) (g : FlatNode) → slice_get s.nodes n ≡ Some node → slice_get again.nodes n ≡ Some g → (k : ℕ) (e : FieldRowView)
      → slice_get (rows node.node_type) k ≡ Some e → IsOkay (field_value again.nodes numbers e (given g.fields k))
  row_read n node g is at k e own =
      let a = again_at n node g is at in
      let now : Option Value = value_now s state n k e.access e.field_type in
      let there : given g.fields k ≡ given_by k (unless_default e.default now) =
      ap (λ (l : List FlatField). given l k) a.fields_same ∙ row_given s state n (rows node.node_type) (declared_at s n) k e own in
      let row : slice_get (rows_at s n) k ≡ Some e =
      ap (λ (l : List FieldRowView). slice_get l k) (rows_by_node s n node is)
      ∙ front (rows node.node_type) (map declared_entry (numbered_fields node.node_type node.declared)) k e own in
      subst (λ (o : Option FlatField). IsOkay (field_value again.nodes numbers e o)) (sym there)
      (row_okay typed_again again.nodes numbers e k now (λ d x default other held.
      (let w = now_given from s state is_scene kept ranged all_left n node is k e own d default x other held in
      record {
        typed_as = (holds_at n node is k e row).typed x held;
        fit = fits_at n node is k e x held;
        initial = w.initial;
        ranged = w.ranged;
        taken = all_taken_by e.kind (nodes_of x) w.kinds_are;
      })))

  split_at : (n : ℕ) (node : SceneNode) → slice_get s.nodes n ≡ Some node → rows_at s n ≡ rows node.node_type ++ map declared_entry (declared_at s n)
  split_at n node is =
      rows_by_node s n node is ∙ ap (λ (l : List DeclaredField). rows node.node_type ++ map declared_entry l) (sym (declared_by_node s n node is))

  -- a field that a node of the scene declares is no rotation
  no_rotation_at : (n : ℕ) (node : SceneNode) → slice_get s.nodes n ≡ Some node → (i : ℕ) (d : DeclaredField) → slice_get (declared_at s n) i ≡ Some d
      → is_rotation d.field_type ≡ false
  no_rotation_at n node is i d there =
      let m = made_of from s is_scene table n node is in
      let fs : FlatNode = m.0 in
      let here : declared_at s n ≡ numbered_fields fs.node_type (map declared_by fs.interface) =
      declared_by_node s n node is
      ∙ (ap (λ (t : NodeType). numbered_fields t node.declared) m.1.node_type ∙ ap (λ (l : List DeclaredField). numbered_fields fs.node_type l) m.1.declared) in
      let x = declaration_at fs.node_type fs.interface i (declared_entry d)
      (ap (λ (l : List DeclaredField). slice_get (map declared_entry l) i) (sym here) ∙ mapped_at declared_entry (declared_at s n) i d there) in
      let k : ℕ = length (rows fs.node_type) + i in
      ap (λ (e : FieldRowView). is_rotation e.field_type) x.2
      ∙ (declared_holds from.nodes (numbers_of from).numbers x.0 (given fs.fields k) (value_in node.values k) (m.1.field i x.0 x.1)).0

  field_read : (n : ℕ) (node : SceneNode) (g : FlatNode) → slice_get s.nodes n ≡ Some node → slice_get again.nodes n ≡ Some g → (i : ℕ) (d : Declaration ℕ)
      → slice_get (numbered_fields node.node_type g.interface) i ≡ Some d → IsOkay (declared_value again.nodes numbers d (given g.fields (length (rows node.node_type) + i)))
  field_read n node g is at i d own =
      let a = again_at n node g is at in
      let t : NodeType = node.node_type in
      let k : ℕ = length (rows t) + i in
      let now : Option Value = value_now s state n k d.access d.field_type in
      let there : slice_get (declared_at s n) i ≡ Some (declared_by d) =
      ap (λ (l : List DeclaredField). slice_get l i) (sym a.numbered) ∙ mapped_at declared_by (numbered_fields t g.interface) i d own in
      let row : slice_get (rows_at s n) k ≡ Some (declaration_entry d) =
      ap (λ (l : List FieldRowView). slice_get l k) (split_at n node is)
      ∙ (behind (rows t) (map declared_entry (declared_at s n)) i ∙ mapped_at declared_entry (declared_at s n) i (declared_by d) there) in
      let shown : given g.fields k ≡ given_by k (if is_initial d.access then now else None) =
      ap (λ (l : List FlatField). given l k) a.fields_same ∙ declared_given s state n (rows t) (declared_at s n) i (declared_by d) there in
      subst (λ (o : Option FlatField). IsOkay (declared_value again.nodes numbers d o)) (sym shown)
      (declared_read typed_again again.nodes numbers d k now (no_rotation_at n node is i (declared_by d) there) (λ x held. (
        (holds_at n node is k (declaration_entry d) row).typed x held,
        fits_at n node is k (declaration_entry d) x held,
        all_taken_by None (nodes_of x) (now_inside from s state is_scene kept ranged all_left n (within s.nodes n node is) k d.access d.field_type x held),
      )))

  own_okay : (n : ℕ) (node : SceneNode) (g : FlatNode) → slice_get s.nodes n ≡ Some node → slice_get again.nodes n ≡ Some g → IsOkay (values_of again.nodes numbers g)
  own_okay n node g is at =
      values_okay typed_again again.nodes numbers g node.node_type (again_at n node g is at).node_type (row_read n node g is at) (field_read n node g is at)

  -- ---- all nodes

  last_okay : (hs : List ℕ) → s.helpers ≡ hs → (n : ℕ) (g : FlatNode) → count ≤ n → slice_get again.nodes n ≡ Some g → IsOkay (values_of again.nodes numbers g)
  last_okay [] e n g l at =
      let w = within again.nodes n g at in
      let m = ap (λ (l : List ℕ). length (switch_root count l)) e in absurd (omega (arith, as_many, w, m, l))
  last_okay (h ∷ hs) e n g l at =
      let w = within again.nodes n g at in
      let m : length (switch_root count s.helpers) ≡ 1 = ap (λ (l : List ℕ). length (switch_root count l)) e in
      let here : n ≡ count = omega (arith, as_many, w, m, l) in
      let a = last_is from s routes state again is_scene kept of_type sound table same filled none h hs g e (ap (λ (k : ℕ). slice_get again.nodes k) (sym here) ∙ at) in
      switch_okay typed_again again.nodes numbers h hs
      (all_weaker (λ (n : ℕ). n < count) (λ (n : ℕ). called numbers n ≡ n) (λ n k. called_in_place n (omega (arith, as_many, k))) (h ∷ hs)
      (subst (AllByRecursion (λ (n : ℕ). n < count)) e (helpers_there from s is_scene)))
      (all_taken_by (Some Child) (h ∷ hs) (subst (AllByRecursion (IsOfKind s (Some Child))) e (helpers_kind from s is_scene)))
      g a.node_type a.fields_same a.interface

  pub each_okay : (n : ℕ) (g : FlatNode) → slice_get again.nodes n ≡ Some g → IsOkay (values_of again.nodes numbers g)
  each_okay n g at = by_node (slice_get s.nodes n) refl where
    by_node : (o : Option SceneNode) → slice_get s.nodes n ≡ o → IsOkay (values_of again.nodes numbers g)
    by_node None is = last_okay s.helpers refl n g (beyond s.nodes n is) at
    by_node (Some node) is = own_okay n node g is at
