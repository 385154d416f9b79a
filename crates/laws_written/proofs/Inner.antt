-- What stands in a node of a scene is what stands in the node of its document, by the numbers of the
-- scene.
use Rattle.std.proofs.Common.{◌≡◌, ℕ, ◌+◌, ◌<◌, Bool, true, false, not, ◌&&◌, if◌then◌else◌, List, [], ◌∷◌, ◌++◌, codes, length, map, nat_eq, Option, Some, None, Result, Ok, Err, slice_get, refl, sym, ap, subst, ◌∙◌, inl, inr, append_assoc, append-nil}
use Rattle.std.specs.Cmp.Lexicographic.{pointwise}
use Rattle.std.specs.List.{flat_map, list_all}
use Rattle.std.specs.Option.{option_and_then}
use Rattle.std.proofs.lemmas.Grind.{flat_map-append}
use Rattle.std.proofs.lemmas.List.{map-append}
use Rattle.x3d_values.specs.declared.default.FieldDefault.{FieldDefault}
use Rattle.x3d_values.specs.declared.default.FieldDefault.TheVariants as default
use Rattle.x3d_values.specs.declared.field_type.Access.{Access}
use Rattle.x3d_values.specs.declared.field_type.FieldType.{FieldType}
use Rattle.x3d_values.specs.declared.field_type.FieldType.TheVariants as types
use Rattle.x3d_values.specs.declared.node_type.NodeKind.{NodeKind}
use Rattle.x3d_values.specs.declared.node_type.NodeType.{NodeType}
use Rattle.x3d_values.specs.declared.value.Value.{Value}
use Rattle.x3d_values.specs.declared.value.Value.TheVariants as value
use Rattle.x3d_values.specs.Access.{holds_nodes, is_initial}
use Rattle.x3d_values.specs.Defaults.{default_value}
use Rattle.x3d_values.specs.Tables.{FieldRowView, rows}
use Rattle.x3d_values.specs.Values.{empty_value, nodes_of}
use Rattle.classic_tree.specs.declared.tree.Declaration.{Declaration}
use Rattle.classic_tree.specs.declared.tree.RawValue.{RawValue}
use Rattle.classic_tree.specs.declared.tree.RawValue.TheVariants as raw
use Rattle.proto_flat.specs.declared.flat.FlatField.{FlatField}
use Rattle.proto_flat.specs.declared.flat.FlatNode.{FlatNode}
use Rattle.scene_values.specs.declared.fault.ValueFault.{ValueFault}
use Rattle.scene_values.specs.Grouping.{color, colors, component, pair, pairs, vector, vectors}
use Rattle.scene_values.specs.Quantities.{whole}
use Rattle.scene_values.specs.Rotations.{checked_rotation}
use Rattle.scene_values.specs.Typing.{called, made, node, nodes, typed}
use Rattle.scene_core.specs.declared.fault.SceneFault.{SceneFault}
use Rattle.scene_core.specs.declared.fault.SceneFaultKind.TheVariants.{BadChild, NotInitial, RotationUnsupported, ValueRange}
use Rattle.scene_core.specs.declared.scene.SceneNode.{SceneNode}
use Rattle.scene_core.specs.Building.{node_of}
use Rattle.scene_core.specs.Deep.{linked}
use Rattle.scene_core.specs.Faults.{fault, ◌>>=◌}
use Rattle.scene_core.specs.Labels.{label_by}
use Rattle.scene_core.specs.Parts.{given, inner_nodes, parts, parts_from, parts_in}
use Rattle.scene_core.specs.Shape.{declaration_entry, declared_by, is_rotation, numbered_fields}
use Rattle.scene_core.specs.Typed.{accepted, accepted_in_range, all_taken, at_line, declared_from, declared_value, default_of, dropped_rotation, field_value, given_value, in_range, no_rotation, takes, typed_value, values_from, values_of}
use Rattle.laws_written.specs.Children.{children}
use Rattle.laws_written.proofs.NumberedLists.{In, within}

-- ---- steps that may fail

pub bind_is : {A B : Type 0} (r : Result A SceneFault) (k : A → Result B SceneFault) (b : B) → (r >>= k) ≡ Ok b → (a : A) × (r ≡ Ok a) × (k a ≡ Ok b)
bind_is (Err e) k b h = absurd cc
bind_is (Ok a) k b h = (a, refl, h)

abbrev scene_ok : {A : Type 0} → A → Result A SceneFault
scene_ok x = Ok x

pub scene_ok_is : {A : Type 0} (x y : A) → scene_ok x ≡ scene_ok y → x ≡ y
scene_ok_is x y e = cc

abbrev value_ok : {A : Type 0} → A → Result A ValueFault
value_ok x = Ok x

value_ok_is : {A : Type 0} (x y : A) → value_ok x ≡ value_ok y → x ≡ y
value_ok_is x y e = cc

made_is : {X Y : Type 0} (f : X → Y) (r : Result X ValueFault) (y : Y) → made f r ≡ Ok y → (x : X) × (r ≡ Ok x) × (f x ≡ y)
made_is f (Err e) y h = absurd cc
made_is f (Ok x) y h = (x, refl, value_ok_is (f x) y h)

pub line_is : {A : Type 0} (line : ℕ) (r : Result A ValueFault) (a : A) → at_line line r ≡ Ok a → r ≡ Ok a
line_is {A} line (Err e) a h = absurd cc
line_is {A} line (Ok x) a h = ap (λ (k : A). value_ok k) (scene_ok_is x a h)

-- ---- a typed value

abbrev pub inner_if : Bool → List ℕ → List ℕ
inner_if holds ns = if holds then ns else []

module _ (numbers : List ℕ) where
  none : {X : Type 0} (f : X → Value) (r : Result X ValueFault) (v : Value) → ((x : X) → nodes_of (f x) ≡ []) → made f r ≡ Ok v → nodes_of v ≡ []
  none f r v k h = let m = made_is f r v h in ap nodes_of (sym m.2) ∙ k m.0

  node_is : (r : RawValue ℕ) (o : Option ℕ) → node numbers r ≡ Ok o → nodes_of (value.SFNode o) ≡ map (called numbers) (inner_nodes r)
  node_is raw.Null o h = ap (λ (o : Option ℕ). nodes_of (value.SFNode o)) (sym (value_ok_is None o h))
  node_is (raw.Node n) o h = ap (λ (o : Option ℕ). nodes_of (value.SFNode o)) (sym (value_ok_is (Some (called numbers n)) o h))
  node_is _ o h = absurd cc

  nodes_are : (r : RawValue ℕ) (ns : List ℕ) → nodes numbers r ≡ Ok ns → ns ≡ map (called numbers) (inner_nodes r)
  nodes_are (raw.Node n) ns h = sym (value_ok_is (called numbers n ∷ []) ns h)
  nodes_are (raw.NodeList ms) ns h = sym (value_ok_is (map (called numbers) ms) ns h)
  nodes_are raw.EmptyList ns h = sym (value_ok_is [] ns h)
  nodes_are _ ns h = absurd cc

  pub typed_nodes : (t : FieldType) (r : RawValue ℕ) (v : Value) → typed t r numbers ≡ Ok v → nodes_of v ≡ map (called numbers) (inner_if (holds_nodes t) (inner_nodes r))
  typed_nodes types.SFNode r v h =
      let m = made_is value.SFNode (node numbers r) v h in ap nodes_of (sym m.2) ∙ node_is r m.0 m.1
  typed_nodes types.MFNode r v h =
      let m = made_is value.MFNode (nodes numbers r) v h in ap nodes_of (sym m.2) ∙ nodes_are r m.0 m.1
  typed_nodes types.SFRotation r v h = absurd cc
  typed_nodes types.SFBool r v h = none value.SFBool _ v (λ x. refl) h
  typed_nodes types.SFInt32 r v h = none (λ x. value.SFInt32 (whole (component x 0))) _ v (λ x. refl) h
  typed_nodes types.SFFloat r v h = none (λ x. value.SFFloat (component x 0)) _ v (λ x. refl) h
  typed_nodes types.SFTime r v h = none (λ x. value.SFTime (component x 0)) _ v (λ x. refl) h
  typed_nodes types.SFString r v h = none value.SFString _ v (λ x. refl) h
  typed_nodes types.SFVec2f r v h = none (λ x. value.SFVec2f (pair x)) _ v (λ x. refl) h
  typed_nodes types.SFVec3f r v h = none (λ x. value.SFVec3f (vector x)) _ v (λ x. refl) h
  typed_nodes types.SFColor r v h = none (λ x. value.SFColor (color x)) _ v (λ x. refl) h
  typed_nodes types.MFBool r v h = none value.MFBool _ v (λ x. refl) h
  typed_nodes types.MFInt32 r v h = none (λ x. value.MFInt32 (map whole x)) _ v (λ x. refl) h
  typed_nodes types.MFFloat r v h = none value.MFFloat _ v (λ x. refl) h
  typed_nodes types.MFTime r v h = none value.MFTime _ v (λ x. refl) h
  typed_nodes types.MFString r v h = none value.MFString _ v (λ x. refl) h
  typed_nodes types.MFVec2f r v h = none (λ x. value.MFVec2f (pairs x)) _ v (λ x. refl) h
  typed_nodes types.MFVec3f r v h = none (λ x. value.MFVec3f (vectors x)) _ v (λ x. refl) h
  typed_nodes types.MFColor r v h = none (λ x. value.MFColor (colors x)) _ v (λ x. refl) h

-- ---- what holds no nodes

rotation_none : (t : FieldType) → is_rotation t ≡ true → holds_nodes t ≡ false
rotation_none types.SFNode h = absurd cc
rotation_none types.MFNode h = absurd cc
rotation_none _ h = refl

empty_none : (t : FieldType) → linked (empty_value t) ≡ []
empty_none types.SFNode = refl
empty_none _ = refl

pub default_none : (t : FieldType) (d : Option FieldDefault) → linked (option_and_then (default_value t) d) ≡ []
default_none t None = refl
default_none t (Some default.Empty) = empty_none t
default_none t (Some default.True) = refl
default_none t (Some _) = refl

if_none : (holds : Bool) → inner_if holds [] ≡ []
if_none true = refl
if_none false = refl

-- ---- a field

pub taken : (kind : Option NodeKind) (o : Option FlatNode) → takes kind o ≡ true → (node : FlatNode) × (o ≡ Some node)
taken (Some kind) None h = absurd cc
taken None None h = absurd cc
taken kind (Some node) h = (node, refl)

both : (a b : Bool) → (a && b) ≡ true → (a ≡ true) × (b ≡ true)
both true b e = (refl, e)
both false b e = absurd cc

tests_are : (a b : Bool) (x y : SceneFault) (k v : Option Value) → (if not a then Err x else (if b then Ok k else Err y)) ≡ Ok v → (b ≡ true) × (k ≡ v)
tests_are false b x y k v h = absurd cc
tests_are true false x y k v h = absurd cc
tests_are true true x y k v h = (refl, scene_ok_is k v h)

pub range_is : (r : Bool) (x : SceneFault) (s : Result (Option Value) SceneFault) (v : Option Value) → (if r then s else Err x) ≡ Ok v → s ≡ Ok v
range_is true x s v h = h
range_is false x s v h = absurd cc

module _ (all : List FlatNode) (numbers : List ℕ) where
  -- what a value links to is what was given, and these are nodes
  pub record IsInner (ns : List ℕ) (given : List ℕ) : Type 0 where
    pub linked_are : ns ≡ map (called numbers) given
    pub valid : (y : ℕ) → In y given → y < length all

  abbrev IsField : FieldType → Option FlatField → Option Value → Type 0
  IsField t given v = IsInner (linked v) (parts_in t given)

  all_valid : (kind : Option NodeKind) (ns : List ℕ) → all_taken kind all ns ≡ true → (y : ℕ) → In y ns → y < length all
  all_valid kind [] h y n = absurd n
  all_valid kind (m ∷ ns) h y (inl e) =
      let b = both (takes kind (slice_get all m)) (list_all (λ n. takes kind (slice_get all n)) ns) h in
      let t = taken kind (slice_get all m) b.0 in
      subst (λ (z : ℕ). z < length all) (sym e) (within all m t.0 t.1)
  all_valid kind (m ∷ ns) h y (inr n) =
      all_valid kind ns (both (takes kind (slice_get all m)) (list_all (λ n. takes kind (slice_get all n)) ns) h).1 y n

  valid_if : (holds : Bool) (ns : List ℕ) → ((y : ℕ) → In y ns → y < length all) → (y : ℕ) → In y (inner_if holds ns) → y < length all
  valid_if true ns k y n = k y n
  valid_if false ns k y n = absurd n

  accepted_is : (t : FieldType) (access : Access) (kind : Option NodeKind) (f : FlatField) (x : Value) (v : Option Value) → typed t f.value numbers ≡ Ok x
      → accepted all access kind f x ≡ Ok v → IsField t (Some f) v
  accepted_is t access kind f x v h k =
      let a = tests_are (is_initial access) (all_taken kind all (inner_nodes f.value)) (fault NotInitial f.line) (fault BadChild f.line) (Some x) v k in
      record {
        linked_are = ap linked (sym a.1) ∙ typed_nodes numbers t f.value x h;
        valid = valid_if (holds_nodes t) (inner_nodes f.value) (all_valid kind (inner_nodes f.value) a.0);
      }

  nothing_is : (t : FieldType) (o : Option FlatField) (v : Option Value) → parts_in t o ≡ [] → linked v ≡ [] → IsField t o v
  nothing_is t o v p l = record {
    linked_are = l ∙ ap (λ (ns : List ℕ). map (called numbers) ns) (sym p);
    valid = λ y n. absurd (subst (λ (ns : List ℕ). In y ns) p n);
  }

  none_given : (t : FieldType) → parts_in t None ≡ []
  none_given t = if_none (holds_nodes t)

  rotation_given : (t : FieldType) (f : FlatField) → is_rotation t ≡ true → parts_in t (Some f) ≡ []
  rotation_given t f h = ap (λ (b : Bool). inner_if b (inner_nodes f.value)) (rotation_none t h)

  given_is : (e : FieldRowView) (f : FlatField) (v : Option Value) → given_value all numbers e f ≡ Ok v → IsField e.field_type (Some f) v
  given_is e f v h = by_rotation (is_rotation e.field_type) refl h where
    by_rotation : (b : Bool) → is_rotation e.field_type ≡ b
        → (if b then dropped_rotation e f else (typed_value numbers e.field_type f >>= accepted_in_range all e f)) ≡ Ok v → IsField e.field_type (Some f) v
    by_rotation true r h =
        let b = bind_is (at_line f.line (checked_rotation f.value (pointwise nat_eq e.name (codes "orientation")))) (λ _. Ok None) v h in
        nothing_is e.field_type (Some f) v (rotation_given e.field_type f r) (ap linked (sym (scene_ok_is None v b.2)))
    by_rotation false r h =
        let b = bind_is (typed_value numbers e.field_type f) (accepted_in_range all e f) v h in
        accepted_is e.field_type e.access e.kind f b.0 v (line_is f.line (typed e.field_type f.value numbers) b.0 b.1)
        (range_is (in_range e.name b.0) (fault ValueRange f.line) (accepted all e.access e.kind f b.0) v b.2)

  field_is : (e : FieldRowView) (o : Option FlatField) (v : Option Value) → field_value all numbers e o ≡ Ok v → IsField e.field_type o v
  unfolding field_value
  field_is e None v h = nothing_is e.field_type None v (none_given e.field_type) (ap linked (sym (scene_ok_is (default_of e) v h)) ∙ default_none e.field_type e.default)
  field_is e (Some f) v h = given_is e f v h

  declared_is : (d : Declaration ℕ) (o : Option FlatField) (v : Option Value) → declared_value all numbers d o ≡ Ok v → IsField d.field_type o v
  unfolding declared_value
  declared_is d None v h = by_rotation (is_rotation d.field_type) h where
    by_rotation : (b : Bool) → (if b then Err (fault RotationUnsupported d.line) else Ok (default_of (declaration_entry d))) ≡ Ok v → IsField d.field_type None v
    by_rotation true h = absurd cc
    by_rotation false h =
        nothing_is d.field_type None v (none_given d.field_type)
        (ap linked (sym (scene_ok_is (default_of (declaration_entry d)) v h)) ∙ default_none d.field_type (declaration_entry d).default)
  declared_is d (Some f) v h = by_rotation (is_rotation d.field_type) h where
    by_rotation : (b : Bool) → (if b then no_rotation f else (typed_value numbers d.field_type f >>= accepted all d.access None f)) ≡ Ok v → IsField d.field_type (Some f) v
    by_rotation true h =
        let b = bind_is (at_line f.line (checked_rotation f.value true)) (λ _. Err (fault RotationUnsupported f.line)) v h in absurd cc
    by_rotation false h =
        let b = bind_is (typed_value numbers d.field_type f) (accepted all d.access None f) v h in
        accepted_is d.field_type d.access None f b.0 v (line_is f.line (typed d.field_type f.value numbers) b.0 b.1) b.2

  -- ---- all fields of a node

  joined : (ns ms gs hs : List ℕ) → IsInner ns gs → IsInner ms hs → IsInner (ns ++ ms) (gs ++ hs)
  joined ns ms gs hs a b = record {
    linked_are = ap (λ (l : List ℕ). l ++ ms) a.linked_are ∙ ap (λ (l : List ℕ). map (called numbers) gs ++ l) b.linked_are ∙ sym (map-append (called numbers) gs hs);
    valid = λ y n. by_side y gs a.valid n;
  } where
    by_side : (y : ℕ) (gs : List ℕ) → ((z : ℕ) → In z gs → z < length all) → In y (gs ++ hs) → y < length all
    by_side y [] k n = b.valid y n
    by_side y (g ∷ gs) k (inl e) = k y (inl e)
    by_side y (g ∷ gs) k (inr n) = by_side y gs (λ z m. k z (inr m)) n

  nothing_inner : IsInner [] []
  nothing_inner = record { linked_are = refl; valid = λ y n. absurd n }

  -- the values made behind others link to what is in these fields
  pub record AreBehind (made values : List (Option Value)) (inner : List ℕ) : Type 0 where
    pub more : List (Option Value)
    pub is : values ≡ made ++ more
    pub fields : IsInner (flat_map linked more) inner

  one_more : (made values : List (Option Value)) (v : Option Value) (t : FieldType) (o : Option FlatField) (inner : List ℕ)
      → IsField t o v → AreBehind (made ++ v ∷ []) values inner → AreBehind made values (parts_in t o ++ inner)
  one_more made values v t o inner f b = record {
    more = v ∷ b.more;
    is = b.is ∙ append_assoc made (v ∷ []) b.more;
    fields = joined (linked v) (flat_map linked b.more) (parts_in t o) inner f b.fields;
  }

  no_more : (made values : List (Option Value)) → scene_ok made ≡ Ok values → AreBehind made values []
  no_more made values h = record { more = []; is = sym (scene_ok_is made values h) ∙ sym (append-nil made); fields = nothing_inner }

  values_behind : (fields : List FlatField) (number : ℕ) (es : List FieldRowView) (made values : List (Option Value)) → values_from all numbers fields number es made ≡ Ok values
      → AreBehind made values (parts_from fields number es)
  values_behind fields number [] made values h = no_more made values h
  values_behind fields number (e ∷ es) made values h =
      let b = bind_is (field_value all numbers e (given fields number)) (λ v. values_from all numbers fields (number + 1) es (made ++ v ∷ [])) values h in
      one_more made values b.0 e.field_type (given fields number) (parts_from fields (number + 1) es)
      (field_is e (given fields number) b.0 b.1) (values_behind fields (number + 1) es (made ++ b.0 ∷ []) values b.2)

  declared_behind : (fields : List FlatField) (number : ℕ) (ds : List (Declaration ℕ)) (made values : List (Option Value)) → declared_from all numbers fields number ds made ≡ Ok values
      → AreBehind made values (parts_from fields number (map declaration_entry ds))
  declared_behind fields number [] made values h = no_more made values h
  declared_behind fields number (d ∷ ds) made values h =
      let b = bind_is (declared_value all numbers d (given fields number)) (λ v. declared_from all numbers fields (number + 1) ds (made ++ v ∷ [])) values h in
      one_more made values b.0 d.field_type (given fields number) (parts_from fields (number + 1) (map declaration_entry ds))
      (declared_is d (given fields number) b.0 b.1) (declared_behind fields (number + 1) ds (made ++ b.0 ∷ []) values b.2)

  -- the values of the type, and those that are declared
  joined_values : (own more values : List (Option Value)) (inner : List ℕ) → values ≡ own ++ more → IsInner (flat_map linked own ++ flat_map linked more) inner
      → IsInner (flat_map linked values) inner
  joined_values own more values inner e h =
      subst (λ (l : List ℕ). IsInner l inner)
      (sym (ap (λ (l : List (Option Value)). flat_map linked l) e ∙ flat_map-append linked own more)) h

  abbrev new_node : FlatNode → Option (List ℕ) → List (Option Value) → SceneNode
  new_node node label values =
      record { node_type = node.node_type; label = label; declared = map declared_by node.interface; values = values }

  pub children_are : (is_label : List ℕ → Bool) (node : FlatNode) (n : SceneNode) → node_of all numbers is_label node ≡ Ok n → IsInner (children n) (parts node)
  unfolding values_of
  children_are is_label node n h =
      let t : NodeType = node.node_type in
      let ds : List (Declaration ℕ) = numbered_fields t node.interface in
      let label : Option (List ℕ) = label_by is_label node.name in
      let a = bind_is (values_of all numbers node) (λ values. Ok (new_node node label values)) n h in
      let b = bind_is (values_from all numbers node.fields 0 (rows t) []) (declared_from all numbers node.fields (length (rows t)) ds) a.0 a.1 in
      let first = values_behind node.fields 0 (rows t) [] b.0 b.1 in
      let more = declared_behind node.fields (length (rows t)) ds b.0 a.0 b.2 in
      let both : IsInner (flat_map linked b.0 ++ flat_map linked more.more) (parts node) =
      joined (flat_map linked b.0) (flat_map linked more.more) (parts_from node.fields 0 (rows t)) (parts_from node.fields (length (rows t)) (map declaration_entry ds))
      (subst (λ (l : List (Option Value)). IsInner (flat_map linked l) (parts_from node.fields 0 (rows t))) (sym first.is) first.fields) more.fields in
      subst (λ (m : SceneNode). IsInner (children m) (parts node)) (scene_ok_is (new_node node label a.0) n a.2)
      (joined_values b.0 more.more a.0 (parts node) more.is both)
