-- What a field of a scene's node holds: a value of the field's type, where it may hold one and the
-- table has a default, and else nothing.
use Rattle.std.proofs.Common.{◌≡◌, ℕ, pos, Bool, true, false, not, ◌&&◌, ◌||◌, if◌then◌else◌, List, [], codes, nat_eq, map, Option, Some, None, Result, Ok, Err, refl, sym, ap, subst, ◌∙◌}
use Rattle.std.specs.Prelude.{is_some, MatchOption, option_map, ⊤}
use Rattle.std.specs.Cmp.Lexicographic.{pointwise}
use Rattle.std.specs.Option.{option_and_then, option_or}
use Rattle.x3d_values.specs.declared.default.FieldDefault.{FieldDefault}
use Rattle.x3d_values.specs.declared.default.FieldDefault.TheVariants as default
use Rattle.x3d_values.specs.declared.field_type.Access.{Access}
use Rattle.x3d_values.specs.declared.field_type.FieldType.{FieldType}
use Rattle.x3d_values.specs.declared.field_type.FieldType.TheVariants as types
use Rattle.x3d_values.specs.declared.node_type.NodeKind.{NodeKind}
use Rattle.x3d_values.specs.declared.value.Value.{Value}
use Rattle.x3d_values.specs.declared.value.Value.TheVariants as value
use Rattle.x3d_values.specs.Access.{is_initial}
use Rattle.x3d_values.specs.Defaults.{default_value}
use Rattle.x3d_values.specs.Tables.{FieldRowView, IsTyped}
use Rattle.x3d_values.specs.Values.{empty_value, type_of}
use Rattle.classic_tree.specs.declared.tree.Declaration.{Declaration}
use Rattle.classic_tree.specs.declared.tree.RawValue.{RawValue}
use Rattle.proto_flat.specs.declared.flat.FlatField.{FlatField}
use Rattle.proto_flat.specs.declared.flat.FlatNode.{FlatNode}
use Rattle.scene_values.specs.declared.fault.ValueFault.{ValueFault}
use Rattle.scene_values.specs.Grouping.{color, colors, component, pair, pairs, vector, vectors}
use Rattle.scene_values.specs.Quantities.{whole}
use Rattle.scene_values.specs.Rotations.{checked_rotation}
use Rattle.scene_values.specs.Typing.{made, node, nodes, string, strings, truth, truths, typed}
use Rattle.scene_core.specs.declared.fault.SceneFault.{SceneFault}
use Rattle.scene_core.specs.declared.fault.SceneFaultKind.TheVariants.{BadChild, NotInitial, RotationUnsupported, ValueRange}
use Rattle.scene_core.specs.Faults.{fault, ◌>>=◌}
use Rattle.scene_core.specs.Parts.{inner_nodes}
use Rattle.scene_core.specs.Shape.{declaration_entry, declared_default, is_rotation}
use Rattle.scene_core.specs.Typed.{accepted, accepted_in_range, all_taken, at_line, declared_value, default_of, dropped_rotation, field_value, in_range, no_rotation, typed_value}
use Rattle.laws_written.proofs.Inner.{bind_is, line_is, range_is, scene_ok_is}
use Rattle.laws_written.proofs.NumberedLists.{some_is}

-- ---- the type of a value

abbrev value_ok : {A : Type 0} → A → Result A ValueFault
value_ok x = Ok x

value_ok_is : {A : Type 0} (x y : A) → value_ok x ≡ value_ok y → x ≡ y
value_ok_is x y e = cc

made_type : {X : Type 0} (t : FieldType) (f : X → Value) (r : Result X ValueFault) (v : Value) → ((x : X) → type_of (f x) ≡ t) → made f r ≡ Ok v → type_of v ≡ t
made_type t f (Err e) v k h = absurd cc
made_type t f (Ok x) v k h = ap type_of (sym (value_ok_is (f x) v h)) ∙ k x

pub typed_type : (t : FieldType) (r : RawValue ℕ) (numbers : List ℕ) (v : Value) → typed t r numbers ≡ Ok v → type_of v ≡ t
typed_type types.SFBool r ns v h = made_type types.SFBool value.SFBool (truth r) v (λ x. refl) h
typed_type types.SFInt32 r ns v h = made_type types.SFInt32 (λ x. value.SFInt32 (whole (component x 0))) _ v (λ x. refl) h
typed_type types.SFFloat r ns v h = made_type types.SFFloat (λ x. value.SFFloat (component x 0)) _ v (λ x. refl) h
typed_type types.SFTime r ns v h = made_type types.SFTime (λ x. value.SFTime (component x 0)) _ v (λ x. refl) h
typed_type types.SFString r ns v h = made_type types.SFString value.SFString (string r) v (λ x. refl) h
typed_type types.SFVec2f r ns v h = made_type types.SFVec2f (λ x. value.SFVec2f (pair x)) _ v (λ x. refl) h
typed_type types.SFVec3f r ns v h = made_type types.SFVec3f (λ x. value.SFVec3f (vector x)) _ v (λ x. refl) h
typed_type types.SFColor r ns v h = made_type types.SFColor (λ x. value.SFColor (color x)) _ v (λ x. refl) h
typed_type types.SFNode r ns v h = made_type types.SFNode value.SFNode (node ns r) v (λ x. refl) h
typed_type types.MFBool r ns v h = made_type types.MFBool value.MFBool (truths r) v (λ x. refl) h
typed_type types.MFInt32 r ns v h = made_type types.MFInt32 (λ x. value.MFInt32 (map whole x)) _ v (λ x. refl) h
typed_type types.MFFloat r ns v h = made_type types.MFFloat value.MFFloat _ v (λ x. refl) h
typed_type types.MFTime r ns v h = made_type types.MFTime value.MFTime _ v (λ x. refl) h
typed_type types.MFString r ns v h = made_type types.MFString value.MFString (strings r) v (λ x. refl) h
typed_type types.MFVec2f r ns v h = made_type types.MFVec2f (λ x. value.MFVec2f (pairs x)) _ v (λ x. refl) h
typed_type types.MFVec3f r ns v h = made_type types.MFVec3f (λ x. value.MFVec3f (vectors x)) _ v (λ x. refl) h
typed_type types.MFColor r ns v h = made_type types.MFColor (λ x. value.MFColor (colors x)) _ v (λ x. refl) h
typed_type types.MFNode r ns v h = made_type types.MFNode value.MFNode (nodes ns r) v (λ x. refl) h
typed_type types.SFRotation r ns v h = absurd cc

-- no value is of the type of rotations
turns : (v : Value) → is_rotation (type_of v) ≡ false
turns (value.SFBool x) = refl
turns (value.SFInt32 x) = refl
turns (value.SFFloat x) = refl
turns (value.SFTime x) = refl
turns (value.SFString x) = refl
turns (value.SFVec2f x) = refl
turns (value.SFVec3f x) = refl
turns (value.SFColor x) = refl
turns (value.SFNode x) = refl
turns (value.MFBool x) = refl
turns (value.MFInt32 x) = refl
turns (value.MFFloat x) = refl
turns (value.MFTime x) = refl
turns (value.MFString x) = refl
turns (value.MFVec2f x) = refl
turns (value.MFVec3f x) = refl
turns (value.MFColor x) = refl
turns (value.MFNode x) = refl

pub no_turn : (v : Value) (t : FieldType) → type_of v ≡ t → is_rotation t ≡ false
no_turn v t e = subst (λ (k : FieldType). is_rotation k ≡ false) e (turns v)

abbrev HasEmpty : FieldType → Type 0
HasEmpty t = (v : Value) × (empty_value t ≡ Some v) × (type_of v ≡ t)

empty_is : (t : FieldType) → is_rotation t ≡ false → HasEmpty t
empty_is types.SFBool r = (value.SFBool false, refl, refl)
empty_is types.SFInt32 r = (value.SFInt32 (pos 0), refl, refl)
empty_is types.SFFloat r = (value.SFFloat (pos 0), refl, refl)
empty_is types.SFTime r = (value.SFTime (pos 0), refl, refl)
empty_is types.SFString r = (value.SFString [], refl, refl)
empty_is types.SFVec2f r = (value.SFVec2f (record { x = pos 0; y = pos 0 }), refl, refl)
empty_is types.SFVec3f r = (value.SFVec3f (record { x = pos 0; y = pos 0; z = pos 0 }), refl, refl)
empty_is types.SFColor r = (value.SFColor (record { red = pos 0; green = pos 0; blue = pos 0 }), refl, refl)
empty_is types.SFNode r = (value.SFNode None, refl, refl)
empty_is types.MFBool r = (value.MFBool [], refl, refl)
empty_is types.MFInt32 r = (value.MFInt32 [], refl, refl)
empty_is types.MFFloat r = (value.MFFloat [], refl, refl)
empty_is types.MFTime r = (value.MFTime [], refl, refl)
empty_is types.MFString r = (value.MFString [], refl, refl)
empty_is types.MFVec2f r = (value.MFVec2f [], refl, refl)
empty_is types.MFVec3f r = (value.MFVec3f [], refl, refl)
empty_is types.MFColor r = (value.MFColor [], refl, refl)
empty_is types.MFNode r = (value.MFNode [], refl, refl)
empty_is types.SFRotation r = absurd cc

-- ---- what a field holds

pub record Holds (e : FieldRowView) (o : Option Value) : Type 0 where
  pub typed : (v : Value) → o ≡ Some v → type_of v ≡ e.field_type
  pub absent : e.default ≡ None → o ≡ None
  pub present : (d : FieldDefault) → e.default ≡ Some d → (v : Value) × (o ≡ Some v)

-- where a value may be given there is a default, but of a rotation
abbrev pub right : FieldRowView → Bool
right e = not (is_initial e.access) || (is_rotation e.field_type || is_some e.default)

never : (i r d : Bool) → (not i || (r || d)) ≡ true → i ≡ true → r ≡ false → d ≡ false → ⊥
never true false false h i r d = absurd cc
never false r d h i e f = absurd cc
never true true d h i e f = absurd cc
never true false true h i e f = absurd cc

none_some : (v : Value) (o : Option Value) → o ≡ None → o ≡ Some v → ⊥
none_some v o h k = absurd cc

default_some : (d : FieldDefault) (o : Option FieldDefault) → o ≡ None → o ≡ Some d → ⊥
default_some d o h k = absurd cc

not_both : (b : Bool) → b ≡ true → b ≡ false → ⊥
not_both true h k = absurd cc
not_both false h k = absurd cc

-- the default is a value of the type
default_is : (t : FieldType) (o : Option Value) → option_map type_of o ≡ Some t → (v : Value) × (o ≡ Some v) × (type_of v ≡ t)
default_is t None h = absurd cc
default_is t (Some v) h = (v, refl, some_is (type_of v) t h)

pub entry_default : (e : FieldRowView) → IsTyped e → (d : FieldDefault) → e.default ≡ Some d
    → (v : Value) × (default_value e.field_type d ≡ Some v) × (type_of v ≡ e.field_type)
entry_default e h d is =
    default_is e.field_type (default_value e.field_type d)
    (subst (λ (o : Option FieldDefault). MatchOption o ⊤ (λ (x : FieldDefault). option_map type_of (default_value e.field_type x) ≡ Some e.field_type)) is h)

-- a default, or nothing
abbrev made_of : FieldRowView → Option FieldDefault → Option Value
made_of e o = option_and_then (default_value e.field_type) o

default_holds : (e : FieldRowView) → IsTyped e → Holds e (default_of e)
default_holds e h = by_default e.default refl where
  by_default : (o : Option FieldDefault) → e.default ≡ o → Holds e (made_of e e.default)
  by_default None is = record {
    typed = λ v k. absurd (none_some v (made_of e e.default) (ap (made_of e) is) k);
    absent = λ k. ap (made_of e) k;
    present = λ d k. absurd (default_some d e.default is k);
  }
  by_default (Some d) is =
      let r = entry_default e h d is in
      let held : made_of e e.default ≡ Some r.0 = ap (made_of e) is ∙ r.1 in
      record {
        typed = λ v k. ap type_of (some_is v r.0 (sym k ∙ held)) ∙ r.2;
        absent = λ k. absurd (default_some d e.default k is);
        present = λ x k. (r.0, held);
      }

-- a value of the type, where one may be given
pub value_holds : (e : FieldRowView) (v : Value) → right e ≡ true → is_initial e.access ≡ true → type_of v ≡ e.field_type → Holds e (Some v)
value_holds e v r i t = record {
  typed = λ x k. ap type_of (some_is x v (sym k)) ∙ t;
  absent = λ k. absurd (never (is_initial e.access) (is_rotation e.field_type) (is_some e.default) r i (no_turn v e.field_type t) (ap is_some k));
  present = λ d k. (v, refl);
}

turned_holds : (e : FieldRowView) → IsTyped e → is_rotation e.field_type ≡ true → Holds e None
turned_holds e h r = record {
  typed = λ v k. absurd cc;
  absent = λ k. refl;
  present = λ d k. (let x = entry_default e h d k in absurd (not_both (is_rotation e.field_type) r (no_turn x.0 e.field_type x.2)));
}

-- what the node keeps of it, or else what the scene gives
pub kept_holds : (e : FieldRowView) (o p : Option Value) → right e ≡ true → ((v : Value) → o ≡ Some v → (is_initial e.access ≡ true) × (type_of v ≡ e.field_type)) → Holds e p
    → Holds e (option_or o p)
kept_holds e None p r k h = h
kept_holds e (Some v) p r k h = let x = k v refl in value_holds e v r x.0 x.1

-- ---- as a scene is made

pub accepted_told : (a b : Bool) (x y : SceneFault) (k v : Option Value) → (if not a then Err x else (if b then Ok k else Err y)) ≡ Ok v → (a ≡ true) × (k ≡ v)
accepted_told false b x y k v h = absurd cc
accepted_told true false x y k v h = absurd cc
accepted_told true true x y k v h = (refl, scene_ok_is k v h)

module _ (all : List FlatNode) (numbers : List ℕ) where
  pub accepted_is : (access : Access) (kind : Option NodeKind) (f : FlatField) (x : Value) (v : Option Value) → accepted all access kind f x ≡ Ok v
      → (is_initial access ≡ true) × (Some x ≡ v)
  accepted_is access kind f x v h = accepted_told (is_initial access) (all_taken kind all (inner_nodes f.value)) (fault NotInitial f.line) (fault BadChild f.line) (Some x) v h

  pub row_holds : (e : FieldRowView) (o : Option FlatField) (v : Option Value) → IsTyped e → right e ≡ true → field_value all numbers e o ≡ Ok v → Holds e v
  unfolding field_value
  row_holds e None v t r h = subst (Holds e) (scene_ok_is (default_of e) v h) (default_holds e t)
  row_holds e (Some f) v t r h = by_rotation (is_rotation e.field_type) refl h where
    by_rotation : (b : Bool) → is_rotation e.field_type ≡ b
        → (if b then dropped_rotation e f else (typed_value numbers e.field_type f >>= accepted_in_range all e f)) ≡ Ok v → Holds e v
    by_rotation true q h =
        let b = bind_is (at_line f.line (checked_rotation f.value (pointwise nat_eq e.name (codes "orientation")))) (λ _. Ok None) v h in
        subst (Holds e) (scene_ok_is None v b.2) (turned_holds e t q)
    by_rotation false q h =
        let b = bind_is (typed_value numbers e.field_type f) (accepted_in_range all e f) v h in
        let a = accepted_is e.access e.kind f b.0 v (range_is (in_range e.name b.0) (fault ValueRange f.line) (accepted all e.access e.kind f b.0) v b.2) in
        let x = typed_type e.field_type f.value numbers b.0 (line_is f.line (typed e.field_type f.value numbers) b.0 b.1) in
        subst (Holds e) a.1 (value_holds e b.0 r a.0 x)

  -- ---- a field that a Script declares

  declared_typed : (access : Access) (t : FieldType) (e : FieldRowView) → e.field_type ≡ t → e.default ≡ declared_default access t → is_rotation t ≡ false → IsTyped e
  declared_typed access t e f d r = by_access (is_initial access) (is_rotation t) r d where
    by_access : (i q : Bool) → q ≡ false → e.default ≡ (if i && not q then Some default.Empty else None) → IsTyped e
    by_access i true r d = absurd cc
    by_access true false q d =
        let x = empty_is t r in
        let typed : option_map type_of (empty_value t) ≡ Some t = ap (option_map type_of) x.1 ∙ ap (λ (k : FieldType). Some k) x.2 in
        subst (λ (o : Option FieldDefault). MatchOption o ⊤ (λ (x : FieldDefault). option_map type_of (default_value e.field_type x) ≡ Some e.field_type)) (sym d)
        (subst (λ (k : FieldType). option_map type_of (empty_value k) ≡ Some k) (sym f) typed)
    by_access false false q d =
        subst (λ (o : Option FieldDefault). MatchOption o ⊤ (λ (x : FieldDefault). option_map type_of (default_value e.field_type x) ≡ Some e.field_type)) (sym d) tt

  pub declared_right : (access : Access) (t : FieldType) (i r : Bool) → is_initial access ≡ i → is_rotation t ≡ r
      → (not i || (r || is_some (if i && not r then Some default.Empty else None))) ≡ true
  declared_right access t false r h k = refl
  declared_right access t true true h k = refl
  declared_right access t true false h k = refl

  -- such a field is no rotation
  pub declared_holds : (d : Declaration ℕ) (o : Option FlatField) (v : Option Value) → declared_value all numbers d o ≡ Ok v
      → (is_rotation d.field_type ≡ false) × Holds (declaration_entry d) v
  unfolding declared_value
  declared_holds d None v h = by_rotation (is_rotation d.field_type) refl h where
    by_rotation : (b : Bool) → is_rotation d.field_type ≡ b → (if b then Err (fault RotationUnsupported d.line) else Ok (default_of (declaration_entry d))) ≡ Ok v
        → (is_rotation d.field_type ≡ false) × Holds (declaration_entry d) v
    by_rotation true q h = absurd cc
    by_rotation false q h = (
      q,
      subst (Holds (declaration_entry d)) (scene_ok_is (default_of (declaration_entry d)) v h)
          (default_holds (declaration_entry d) (declared_typed d.access d.field_type (declaration_entry d) refl refl q)),
    )
  declared_holds d (Some f) v h = by_rotation (is_rotation d.field_type) refl h where
    by_rotation : (b : Bool) → is_rotation d.field_type ≡ b → (if b then no_rotation f else (typed_value numbers d.field_type f >>= accepted all d.access None f)) ≡ Ok v
        → (is_rotation d.field_type ≡ false) × Holds (declaration_entry d) v
    by_rotation true q h =
        let b = bind_is (at_line f.line (checked_rotation f.value true)) (λ _. Err (fault RotationUnsupported f.line)) v h in absurd cc
    by_rotation false q h =
        let b = bind_is (typed_value numbers d.field_type f) (accepted all d.access None f) v h in
        let a = accepted_is d.access None f b.0 v b.2 in
        let x = typed_type d.field_type f.value numbers b.0 (line_is f.line (typed d.field_type f.value numbers) b.0 b.1) in (
          q,
          subst (Holds (declaration_entry d)) a.1
              (value_holds (declaration_entry d) b.0 (declared_right d.access d.field_type (is_initial d.access) (is_rotation d.field_type) refl refl) a.0 x),
        )
