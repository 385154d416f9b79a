-- What is written of a field is read as what the field holds.
use Rattle.std.proofs.Common.{◌≡◌, ℕ, Bool, true, false, not, ◌&&◌, if◌then◌else◌, List, [], ◌∷◌, map, Option, Some, None, Result, Ok, refl, sym, ap, ◌∙◌}
use Rattle.std.specs.List.{AllByRecursion}
use Rattle.std.specs.Option.{option_and_then}
use Rattle.x3d_values.specs.declared.default.FieldDefault.{FieldDefault}
use Rattle.x3d_values.specs.declared.default.FieldDefault.TheVariants as default
use Rattle.x3d_values.specs.declared.field_type.FieldType.{FieldType}
use Rattle.x3d_values.specs.declared.value.Value.{Value}
use Rattle.x3d_values.specs.declared.value.Value.TheVariants as value
use Rattle.x3d_values.specs.Access.{is_initial}
use Rattle.x3d_values.specs.Defaults.{default_value}
use Rattle.x3d_values.specs.Tables.{FieldRowView}
use Rattle.x3d_values.specs.Values.{nodes_of, type_of}
use Rattle.classic_tree.specs.declared.tree.Declaration.{Declaration}
use Rattle.classic_tree.specs.declared.tree.RawValue.{RawValue}
use Rattle.classic_tree.specs.declared.tree.RawValue.TheVariants as raw
use Rattle.proto_flat.specs.declared.flat.FlatField.{FlatField}
use Rattle.proto_flat.specs.declared.flat.FlatNode.{FlatNode}
use Rattle.scene_values.specs.Typing.{called, typed}
use Rattle.scene_core.specs.declared.fault.SceneFaultKind.TheVariants.{ValueRange}
use Rattle.scene_core.specs.Faults.{fault, ◌>>=◌}
use Rattle.scene_core.specs.Shape.{declaration_entry, is_rotation}
use Rattle.scene_core.specs.Typed.{accepted, accepted_in_range, declared_value, default_of, dropped_rotation, field_value, in_range, no_rotation, typed_value}
use Rattle.scene_text.specs.Defaulted.{is_default}
use Rattle.laws_written.proofs.Inner.{bind_is, line_is, range_is, scene_ok_is}
use Rattle.scene_values.specs.declared.fault.ValueFault.{ValueFault}
use Rattle.laws_written.specs.Defaults.{LeftOutAreDefaults}
use Rattle.laws_written.specs.Values.{WrittenNodesAreTyped, is_sound, placed}
use Rattle.laws_written.specs.Fields.{unless_default, written_field, written_value}
use Rattle.laws_written.proofs.Given.{given_by}
use Rattle.laws_written.proofs.Holding.{Holds, accepted_is, declared_holds, no_turn}

abbrev same : ℕ → ℕ
same n = n

map_same : (ns : List ℕ) → map same ns ≡ ns
map_same [] = refl
map_same (n ∷ ns) = ap (λ (l : List ℕ). n ∷ l) (map_same ns)

-- with each node as its number
placed_same : (v : Value) → placed same v ≡ written_value v
placed_same (value.SFNode (Some n)) = refl
placed_same (value.MFNode (n ∷ ns)) = ap (λ (l : List ℕ). raw.NodeList l) (map_same (n ∷ ns))
placed_same _ = refl

abbrev typed_ok : Value → Result Value ValueFault
typed_ok x = Ok x

value_is : (x y : Value) → typed_ok x ≡ typed_ok y → x ≡ y
value_is x y e = cc

not_both : (b : Bool) → b ≡ true → b ≡ false → ⊥
not_both true h k = absurd cc
not_both false h k = absurd cc

some_none : (v : Value) (o : Option Value) → o ≡ None → o ≡ Some v → ⊥
some_none v o h k = absurd cc

-- sound, and each node in it is called in the scene what it is called in the value
pub record IsFit (numbers : List ℕ) (o : Option Value) : Type 0 where
  pub sound : (v : Value) → o ≡ Some v → is_sound v ≡ true
  pub named : (v : Value) → o ≡ Some v → AllByRecursion (λ (n : ℕ). called numbers n ≡ n) (nodes_of v)

module _ (typed_again : WrittenNodesAreTyped) (left_out : LeftOutAreDefaults) (all : List FlatNode) (numbers : List ℕ) where
  abbrev as_given : ℕ → Value → FlatField
  as_given k x = written_field (record { number = k; value = x })

  read_is : (t : FieldType) (x y : Value) → IsFit numbers (Some x) → type_of x ≡ t → typed t (written_value x) numbers ≡ Ok y → x ≡ y
  read_is t x y fit e h =
      let law : typed (type_of x) (placed same x) numbers ≡ Ok x = typed_again x same numbers (fit.named x refl) (fit.sound x refl) in
      value_is x y
      (sym law ∙ (ap (λ (r : RawValue ℕ). typed (type_of x) r numbers) (placed_same x) ∙ (ap (λ (k : FieldType). typed k (written_value x) numbers) e ∙ h)))

  -- ---- a field of a type

  pub given_again : (e : FieldRowView) (k : ℕ) (x : Value) (v : Option Value) → type_of x ≡ e.field_type → IsFit numbers (Some x)
      → field_value all numbers e (Some (as_given k x)) ≡ Ok v → v ≡ Some x
  unfolding field_value
  given_again e k x v t fit h = by_rotation (is_rotation e.field_type) refl h where
    by_rotation : (b : Bool) → is_rotation e.field_type ≡ b
        → (if b then dropped_rotation e (as_given k x) else (typed_value numbers e.field_type (as_given k x) >>= accepted_in_range all e (as_given k x))) ≡ Ok v → v ≡ Some x
    by_rotation true q h = absurd (not_both (is_rotation e.field_type) q (no_turn x e.field_type t))
    by_rotation false q h =
        let f : FlatField = as_given k x in
        let b = bind_is (typed_value numbers e.field_type f) (accepted_in_range all e f) v h in
        let a = accepted_is all numbers e.access e.kind f b.0 v (range_is (in_range e.name b.0) (fault ValueRange f.line) (accepted all e.access e.kind f b.0) v b.2) in
        let y = read_is e.field_type x b.0 fit t (line_is f.line (typed e.field_type f.value numbers) b.0 b.1) in
        sym a.1 ∙ ap (λ (z : Value). Some z) (sym y)

  pub nothing_again : (e : FieldRowView) (v : Option Value) → field_value all numbers e None ≡ Ok v → default_of e ≡ v
  unfolding field_value
  nothing_again e v h = scene_ok_is (default_of e) v h

  pub row_again : (e : FieldRowView) (k : ℕ) (o v : Option Value) → Holds e o → IsFit numbers o
      → field_value all numbers e (given_by k (unless_default e.default o)) ≡ Ok v → v ≡ o
  row_again e k o v h fit read = by_default e.default refl o h fit read where
    by_test : (d : FieldDefault) (x : Value) → e.default ≡ Some d → Holds e (Some x) → IsFit numbers (Some x) → (b : Bool) → is_default d x ≡ b
        → field_value all numbers e (given_by k (if b then None else Some x)) ≡ Ok v → v ≡ Some x
    by_test d x is h fit true q read =
        let law : default_value (type_of x) d ≡ Some x = left_out d x q in
        sym (nothing_again e v read)
        ∙ (ap (λ (o : Option FieldDefault). option_and_then (default_value e.field_type) o) is
        ∙ (ap (λ (t : FieldType). default_value t d) (sym (h.typed x refl)) ∙ law))
    by_test d x is h fit false q read = given_again e k x v (h.typed x refl) fit read

    by_default : (d : Option FieldDefault) → e.default ≡ d → (o : Option Value) → Holds e o → IsFit numbers o
        → field_value all numbers e (given_by k (unless_default d o)) ≡ Ok v → v ≡ o
    by_default None is o h fit read =
        sym (nothing_again e v read)
        ∙ (ap (λ (o : Option FieldDefault). option_and_then (default_value e.field_type) o) is ∙ sym (h.absent is))
    by_default (Some d) is None h fit read = let x = h.present d is in absurd (some_none x.0 None refl x.1)
    by_default (Some d) is (Some x) h fit read = by_test d x is h fit (is_default d x) refl read

  -- ---- a field that a Script declares

  given_declared : (d : Declaration ℕ) (k : ℕ) (x : Value) (v : Option Value) → type_of x ≡ d.field_type → IsFit numbers (Some x)
      → declared_value all numbers d (Some (as_given k x)) ≡ Ok v → v ≡ Some x
  unfolding declared_value
  given_declared d k x v t fit h = by_rotation (is_rotation d.field_type) refl h where
    by_rotation : (b : Bool) → is_rotation d.field_type ≡ b
        → (if b then no_rotation (as_given k x) else (typed_value numbers d.field_type (as_given k x) >>= accepted all d.access None (as_given k x))) ≡ Ok v → v ≡ Some x
    by_rotation true q h = absurd (not_both (is_rotation d.field_type) q (no_turn x d.field_type t))
    by_rotation false q h =
        let f : FlatField = as_given k x in
        let b = bind_is (typed_value numbers d.field_type f) (accepted all d.access None f) v h in
        let a = accepted_is all numbers d.access None f b.0 v b.2 in
        let y = read_is d.field_type x b.0 fit t (line_is f.line (typed d.field_type f.value numbers) b.0 b.1) in
        sym a.1 ∙ ap (λ (z : Value). Some z) (sym y)

  default_none : (d : Declaration ℕ) (i : Bool) → is_initial d.access ≡ i → i ≡ false → (declaration_entry d).default ≡ None
  default_none d i h k = ap (λ (b : Bool). if b && not (is_rotation d.field_type) then Some default.Empty else None) (h ∙ k)

  default_there : (d : Declaration ℕ) → is_initial d.access ≡ true → is_rotation d.field_type ≡ false → (declaration_entry d).default ≡ Some default.Empty
  default_there d h k =
      ap (λ (b : Bool). if b && not (is_rotation d.field_type) then Some default.Empty else None) h
      ∙ ap (λ (b : Bool). if true && not b then Some default.Empty else None) k

  pub declared_again : (d : Declaration ℕ) (k : ℕ) (o v : Option Value) → Holds (declaration_entry d) o → IsFit numbers o
      → declared_value all numbers d (given_by k (if is_initial d.access then o else None)) ≡ Ok v → v ≡ o
  declared_again d k o v h fit read = by_access (is_initial d.access) refl o h fit read where
    by_access : (i : Bool) → is_initial d.access ≡ i → (o : Option Value) → Holds (declaration_entry d) o → IsFit numbers o
        → declared_value all numbers d (given_by k (if i then o else None)) ≡ Ok v → v ≡ o
    by_access false i o h fit read =
        let none = default_none d false i refl in
        (declared_holds all numbers d None v read).1.absent none ∙ sym (h.absent none)
    by_access true i None h fit read =
        let r = (declared_holds all numbers d None v read).0 in
        let x = h.present default.Empty (default_there d i r) in absurd (some_none x.0 None refl x.1)
    by_access true i (Some x) h fit read = given_declared d k x v (h.typed x refl) fit read
