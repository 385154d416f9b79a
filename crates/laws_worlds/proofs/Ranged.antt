-- The integers and places that fields begin with are in range, those that no node keeps too.
use Rattle.std.proofs.Common.{◌≡◌, ℕ, ◌+◌, ℤ, pos, negsuc, Bool, true, false, not, ◌&&◌, if◌then◌else◌, List, [], ◌∷◌, map, codes, nat_eq, Option, Some, None, Result, Ok, Err, refl, sym, subst}
use Rattle.std.specs.List.{list_all}
use Rattle.std.specs.Option.{option_and_then, option_map_or}
use Rattle.std.specs.Cmp.Lexicographic.{pointwise}
use Rattle.byte_codec.proofs.Laws.{both, and_true}
use Rattle.x3d_values.specs.declared.default.FieldDefault.TheVariants.{Empty}
use Rattle.x3d_values.specs.declared.field_type.FieldType.{FieldType}
use Rattle.x3d_values.specs.declared.field_type.FieldType.TheVariants as types
use Rattle.x3d_values.specs.declared.node_type.NodeType.{NodeType}
use Rattle.x3d_values.specs.declared.node_type.NodeType.TheVariants.{Group}
use Rattle.x3d_values.specs.declared.value.Value.{Value}
use Rattle.x3d_values.specs.declared.value.Value.TheVariants as value
use Rattle.x3d_values.specs.declared.vector.Vec3.{Vec3}
use Rattle.x3d_values.specs.Access.{is_initial}
use Rattle.x3d_values.specs.Defaults.{default_value}
use Rattle.x3d_values.specs.Ranges.{coordinates_fit}
use Rattle.x3d_values.specs.Tables.{FieldRowView, rows}
use Rattle.snapshot_codec.specs.Values.{value_fits, vector3}
use Rattle.script_host.specs.States.{integer_fits}
use Rattle.classic_tree.specs.declared.tree.Declaration.{Declaration}
use Rattle.classic_tree.specs.declared.tree.RawValue.{RawValue}
use Rattle.proto_flat.specs.declared.flat.FlatField.{FlatField}
use Rattle.proto_flat.specs.declared.flat.FlatNode.{FlatNode}
use Rattle.scene_values.specs.declared.fault.ValueFault.{ValueFault}
use Rattle.scene_values.specs.Grouping.{component, pair, vector, color, pairs, vectors, colors}
use Rattle.scene_values.specs.Quantities.{whole}
use Rattle.scene_values.specs.Rotations.{checked_rotation}
use Rattle.scene_values.specs.Typing.{made, node, nodes, string, strings, truth, truths, typed}
use Rattle.scene_core.specs.declared.fault.SceneFaultKind.TheVariants.{RotationUnsupported, ValueRange}
use Rattle.scene_core.specs.Faults.{fault, ◌>>=◌}
use Rattle.scene_core.specs.Parts.{given}
use Rattle.scene_core.specs.Shape.{declaration_entry, is_rotation}
use Rattle.scene_core.specs.Typed.{accepted, accepted_in_range, at_line, declared_value, default_of, dropped_rotation, field_value, in_range, no_rotation, typed_value}
use Rattle.laws_worlds.proofs.Kept.{AreDeclared, AreValues, accepted_is, bind_is, line_is, range_is}
use Rattle.laws_worlds.proofs.Routes.{never, ok_is}
use Rattle.laws_worlds.proofs.Typed.{InRange, made_is, typed_fits}

-- an integer has 32 bits, and a place is in range
abbrev pub ranged : Value → Bool
ranged (value.SFInt32 number) = integer_fits number
ranged (value.SFVec3f place) = coordinates_fit place
ranged _ = true

-- so is the value, if there is one
abbrev pub ranged_if : Option Value → Bool
ranged_if v = option_map_or ranged v true

-- ---- a typed value

integer_ranged : (z : ℤ) → value_fits types.SFInt32 (value.SFInt32 z) ≡ true → integer_fits z ≡ true
unfolding value_fits
integer_ranged (pos n) h = h
integer_ranged (negsuc n) h = h

place_ranged : (p : Vec3) → value_fits types.SFVec3f (value.SFVec3f p) ≡ true → coordinates_fit p ≡ true
unfolding value_fits vector3
place_ranged p h = h

-- what is made of no integer and no place
other : {X : Type 0} (f : X → Value) → ((x : X) → ranged (f x) ≡ true) → (r : Result X ValueFault) (v : Value) → made f r ≡ Ok v → ranged v ≡ true
other f k r v h = let m = made_is f r v h in subst (λ (y : Value). ranged y ≡ true) m.2 (k m.0)

typed_ranged : (t : FieldType) (r : RawValue ℕ) (numbers : List ℕ) (v : Value) → typed t r numbers ≡ Ok v → ranged v ≡ true
typed_ranged types.SFInt32 r ns v h =
    let m = made_is (λ x. value.SFInt32 (whole (component x 0))) _ v h in
    let fit : InRange types.SFInt32 (value.SFInt32 (whole (component m.0 0))) = subst (InRange types.SFInt32) (sym m.2) (typed_fits types.SFInt32 r ns v h) in
    subst (λ (y : Value). ranged y ≡ true) m.2 (integer_ranged (whole (component m.0 0)) (fit refl))
typed_ranged types.SFVec3f r ns v h =
    let m = made_is (λ x. value.SFVec3f (vector x)) _ v h in
    let fit : InRange types.SFVec3f (value.SFVec3f (vector m.0)) = subst (InRange types.SFVec3f) (sym m.2) (typed_fits types.SFVec3f r ns v h) in
    subst (λ (y : Value). ranged y ≡ true) m.2 (place_ranged (vector m.0) (fit refl))
typed_ranged types.SFBool r ns v h = other value.SFBool (λ x. refl) (truth r) v h
typed_ranged types.SFFloat r ns v h = other (λ x. value.SFFloat (component x 0)) (λ x. refl) _ v h
typed_ranged types.SFTime r ns v h = other (λ x. value.SFTime (component x 0)) (λ x. refl) _ v h
typed_ranged types.SFString r ns v h = other value.SFString (λ x. refl) (string r) v h
typed_ranged types.SFVec2f r ns v h = other (λ x. value.SFVec2f (pair x)) (λ x. refl) _ v h
typed_ranged types.SFColor r ns v h = other (λ x. value.SFColor (color x)) (λ x. refl) _ v h
typed_ranged types.SFNode r ns v h = other value.SFNode (λ x. refl) (node ns r) v h
typed_ranged types.MFBool r ns v h = other value.MFBool (λ x. refl) (truths r) v h
typed_ranged types.MFInt32 r ns v h = other (λ x. value.MFInt32 (map whole x)) (λ x. refl) _ v h
typed_ranged types.MFFloat r ns v h = other value.MFFloat (λ x. refl) _ v h
typed_ranged types.MFTime r ns v h = other value.MFTime (λ x. refl) _ v h
typed_ranged types.MFString r ns v h = other value.MFString (λ x. refl) (strings r) v h
typed_ranged types.MFVec2f r ns v h = other (λ x. value.MFVec2f (pairs x)) (λ x. refl) _ v h
typed_ranged types.MFVec3f r ns v h = other (λ x. value.MFVec3f (vectors x)) (λ x. refl) _ v h
typed_ranged types.MFColor r ns v h = other (λ x. value.MFColor (colors x)) (λ x. refl) _ v h
typed_ranged types.MFNode r ns v h = other value.MFNode (λ x. refl) (nodes ns r) v h
typed_ranged types.SFRotation r ns v h = absurd cc

-- ---- the value of a field

-- the defaults of the table
all_defaults : (t : NodeType) → list_all (λ e. ranged_if (default_of e)) (rows t) ≡ true
all_defaults Group = refl
all_defaults _ = refl

empty_ranged : (b : Bool) (ft : FieldType) → ranged_if (option_and_then (default_value ft) (if b then Some Empty else None)) ≡ true
empty_ranged false ft = refl
empty_ranged true types.SFInt32 = refl
empty_ranged true _ = refl

module _ (others : List FlatNode) (numbers : List ℕ) where
  given_ranged : (ft : FieldType) (f : FlatField) (v : Option Value) (x : Value) → typed_value numbers ft f ≡ Ok x → Some x ≡ v → ranged_if v ≡ true
  given_ranged ft f v x h held = subst (λ (y : Option Value). ranged_if y ≡ true) held (typed_ranged ft f.value numbers x (line_is f.line (typed ft f.value numbers) x h))

  row_ranged : (e : FieldRowView) (g : Option FlatField) (v : Option Value) → ranged_if (default_of e) ≡ true → field_value others numbers e g ≡ Ok v → ranged_if v ≡ true
  unfolding field_value
  row_ranged e None v d h = subst (λ (y : Option Value). ranged_if y ≡ true) (ok_is (default_of e) v h) d
  row_ranged e (Some f) v d h = by_type (is_rotation e.field_type) h
    where
      by_type : (b : Bool) → (if b then dropped_rotation e f else (typed_value numbers e.field_type f >>= accepted_in_range others e f)) ≡ Ok v → ranged_if v ≡ true
      by_type true k =
          let b = bind_is (at_line f.line (checked_rotation f.value (pointwise nat_eq e.name (codes "orientation")))) (λ _. Ok None) v k in
          subst (λ (y : Option Value). ranged_if y ≡ true) (ok_is None v b.2) refl
      by_type false k =
          let b = bind_is (typed_value numbers e.field_type f) (accepted_in_range others e f) v k in
          let a = range_is (in_range e.name b.0) (fault ValueRange f.line) (accepted others e.access e.kind f b.0) v b.2 in
          given_ranged e.field_type f v b.0 b.1 (accepted_is others e.access e.kind f b.0 v a.1)

  declared_ranged : (d : Declaration ℕ) (g : Option FlatField) (v : Option Value) → declared_value others numbers d g ≡ Ok v → ranged_if v ≡ true
  unfolding declared_value
  declared_ranged d None v h = by_type (is_rotation d.field_type) h
    where
      by_type : (b : Bool) → (if b then Err (fault RotationUnsupported d.line) else Ok (default_of (declaration_entry d))) ≡ Ok v → ranged_if v ≡ true
      by_type true k = absurd cc
      by_type false k =
          subst (λ (y : Option Value). ranged_if y ≡ true) (ok_is (default_of (declaration_entry d)) v k)
          (empty_ranged (is_initial d.access && not (is_rotation d.field_type)) d.field_type)
  declared_ranged d (Some f) v h = by_type (is_rotation d.field_type) h
    where
      by_type : (b : Bool) → (if b then no_rotation f else (typed_value numbers d.field_type f >>= accepted others d.access None f)) ≡ Ok v → ranged_if v ≡ true
      by_type true k =
          let b = bind_is (at_line f.line (checked_rotation f.value true)) (λ _. Err (fault RotationUnsupported f.line)) v k in
          never (fault RotationUnsupported f.line) v b.2
      by_type false k =
          let b = bind_is (typed_value numbers d.field_type f) (accepted others d.access None f) v k in
          given_ranged d.field_type f v b.0 b.1 (accepted_is others d.access None f b.0 v b.2)

  -- ---- the values of a node

  rows_ranged : (fields : List FlatField) (n : ℕ) (es : List FieldRowView) (vs : List (Option Value)) → list_all (λ e. ranged_if (default_of e)) es ≡ true → AreValues others numbers fields n es vs → list_all ranged_if vs ≡ true
  rows_ranged fields n [] [] d a = refl
  rows_ranged fields n [] (v ∷ vs) d a = absurd a
  rows_ranged fields n (e ∷ es) [] d a = absurd a
  rows_ranged fields n (e ∷ es) (v ∷ vs) d a =
      let b = both (ranged_if (default_of e)) (list_all (λ e. ranged_if (default_of e)) es) d in
      and_true _ _ (row_ranged e (given fields n) v b.0 a.0) (rows_ranged fields (n + 1) es vs b.1 a.1)

  all_declared : (ds : List (Declaration ℕ)) (vs : List (Option Value)) → AreDeclared others numbers ds vs → list_all ranged_if vs ≡ true
  all_declared [] [] a = refl
  all_declared [] (v ∷ vs) a = absurd a
  all_declared (d ∷ ds) [] a = absurd a
  all_declared (d ∷ ds) (v ∷ vs) a = and_true _ _ (declared_ranged d a.0 v a.1) (all_declared ds vs a.2)

  pub all_ranged : (fields : List FlatField) (t : NodeType) (ds : List (Declaration ℕ)) (own more : List (Option Value)) → AreValues others numbers fields 0 (rows t) own → AreDeclared others numbers ds more
      → (list_all ranged_if own ≡ true) × (list_all ranged_if more ≡ true)
  all_ranged fields t ds own more a d = (rows_ranged fields 0 (rows t) own (all_defaults t) a, all_declared ds more d)
