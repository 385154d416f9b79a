-- What is written of a field is read without a fault.
use Rattle.std.proofs.Common.{◌≡◌, ℕ, ℤ, Bool, true, false, not, ◌&&◌, if◌then◌else◌, List, [], ◌∷◌, map, Option, Some, None, Result, Ok, Err, slice_get, refl, sym, ap, subst, ◌∙◌}
use Rattle.std.specs.List.{AllByRecursion, flat_map, list_all}
use Rattle.x3d_values.specs.declared.default.FieldDefault.{FieldDefault}
use Rattle.x3d_values.specs.declared.field_type.Access.{Access}
use Rattle.x3d_values.specs.declared.field_type.FieldType.{FieldType}
use Rattle.x3d_values.specs.declared.node_type.NodeKind.{NodeKind}
use Rattle.x3d_values.specs.declared.value.Value.{Value}
use Rattle.x3d_values.specs.declared.value.Value.TheVariants as value
use Rattle.x3d_values.specs.Access.{is_initial}
use Rattle.x3d_values.specs.Tables.{FieldRowView}
use Rattle.x3d_values.specs.Values.{nodes_of, type_of}
use Rattle.classic_tree.specs.declared.tree.Declaration.{Declaration}
use Rattle.classic_tree.specs.declared.tree.RawValue.{RawValue}
use Rattle.classic_tree.specs.declared.tree.RawValue.TheVariants as raw
use Rattle.proto_flat.specs.declared.flat.FlatField.{FlatField}
use Rattle.proto_flat.specs.declared.flat.FlatNode.{FlatNode}
use Rattle.scene_values.specs.declared.fault.ValueFault.{ValueFault}
use Rattle.scene_values.specs.Typing.{typed}
use Rattle.scene_core.specs.declared.fault.SceneFault.{SceneFault}
use Rattle.scene_core.specs.declared.fault.SceneFaultKind.TheVariants.{BadChild, NotInitial, RotationUnsupported, ValueRange}
use Rattle.scene_core.specs.Faults.{fault, ◌>>=◌}
use Rattle.scene_core.specs.Parts.{inner_nodes}
use Rattle.scene_core.specs.Shape.{declaration_entry, is_rotation}
use Rattle.scene_core.specs.Typed.{accepted, accepted_in_range, all_taken, at_line, declared_value, default_of, dropped_rotation, field_value, in_range, no_rotation, takes, typed_value}
use Rattle.scene_text.specs.Defaulted.{is_default}
use Rattle.scene_text.specs.Raw.{color_run, integer_run, number_list, number_run, pair_run, string_list, truth_list, vector_run}
use Rattle.laws_written.specs.Values.{WrittenNodesAreTyped, placed}
use Rattle.laws_written.specs.Fields.{unless_default, written_field, written_value}
use Rattle.laws_written.proofs.Given.{given_by}
use Rattle.laws_written.proofs.Holding.{no_turn}
use Rattle.laws_written.proofs.Reading.{IsFit}
use Rattle.laws_written.proofs.Okay.{IsOkay}

-- ---- the nodes in what is written of a value

no_truths : (truths : List Bool) → inner_nodes (truth_list truths) ≡ []
no_truths [] = refl
no_truths (t ∷ ts) = refl

no_numbers : (numbers : List ℤ) → inner_nodes (number_list numbers) ≡ []
no_numbers [] = refl
no_numbers (n ∷ ns) = refl

no_texts : (texts : List (List ℕ)) → inner_nodes (string_list texts) ≡ []
no_texts [] = refl
no_texts (t ∷ ts) = refl

inner_is : (v : Value) → inner_nodes (written_value v) ≡ nodes_of v
inner_is (value.SFNode (Some n)) = refl
inner_is (value.SFNode None) = refl
inner_is (value.MFNode []) = refl
inner_is (value.MFNode (n ∷ ns)) = refl
inner_is (value.SFBool v) = refl
inner_is (value.SFInt32 v) = refl
inner_is (value.SFFloat v) = refl
inner_is (value.SFTime v) = refl
inner_is (value.SFString v) = refl
inner_is (value.SFVec2f v) = refl
inner_is (value.SFVec3f v) = refl
inner_is (value.SFColor v) = refl
inner_is (value.MFBool v) = no_truths v
inner_is (value.MFInt32 v) = no_numbers (flat_map integer_run v)
inner_is (value.MFFloat v) = no_numbers (flat_map number_run v)
inner_is (value.MFTime v) = no_numbers (flat_map number_run v)
inner_is (value.MFString v) = no_texts v
inner_is (value.MFVec2f v) = no_numbers (flat_map pair_run v)
inner_is (value.MFVec3f v) = no_numbers (flat_map vector_run v)
inner_is (value.MFColor v) = no_numbers (flat_map color_run v)

abbrev same : ℕ → ℕ
same n = n

map_same : (ns : List ℕ) → map same ns ≡ ns
map_same [] = refl
map_same (n ∷ ns) = ap (λ (l : List ℕ). n ∷ l) (map_same ns)

placed_same : (v : Value) → placed same v ≡ written_value v
placed_same (value.SFNode (Some n)) = refl
placed_same (value.MFNode (n ∷ ns)) = ap (λ (l : List ℕ). raw.NodeList l) (map_same (n ∷ ns))
placed_same _ = refl

both_true : (a b : Bool) → a ≡ true → b ≡ true → (a && b) ≡ true
both_true true b h k = k
both_true false b h k = absurd cc

pub taken_all : (kind : Option NodeKind) (all : List FlatNode) (ns : List ℕ) → AllByRecursion (λ (m : ℕ). takes kind (slice_get all m) ≡ true) ns
    → all_taken kind all ns ≡ true
taken_all kind all [] h = refl
taken_all kind all (m ∷ ns) h =
    both_true (takes kind (slice_get all m)) (list_all (λ n. takes kind (slice_get all n)) ns) h.0 (taken_all kind all ns h.1)

accepted_okay : (a b : Bool) (x y : SceneFault) (v : Option Value) → a ≡ true → b ≡ true → IsOkay (if not a then Err x else (if b then Ok v else Err y))
accepted_okay true true x y v h k = tt
accepted_okay true false x y v h k = absurd cc
accepted_okay false b x y v h k = absurd cc

ranged_okay : (r : Bool) (x : SceneFault) (s : Result (Option Value) SceneFault) → r ≡ true → IsOkay s → IsOkay (if r then s else Err x)
ranged_okay true x s h k = k
ranged_okay false x s h k = absurd cc

typed_then : (line : ℕ) (r : Result Value ValueFault) (x : Value) (k : Value → Result (Option Value) SceneFault) → r ≡ Ok x → IsOkay (k x) → IsOkay (at_line line r >>= k)
typed_then line r x k e h = subst (λ (s : Result Value ValueFault). IsOkay (at_line line s >>= k)) (sym e) h

not_turned : (b : Bool) (x y : Result (Option Value) SceneFault) → b ≡ false → IsOkay y → IsOkay (if b then x else y)
not_turned true x y e h = absurd cc
not_turned false x y e h = h

-- ---- fields

module _ (typed_again : WrittenNodesAreTyped) (all : List FlatNode) (numbers : List ℕ) where
  abbrev as_given : ℕ → Value → FlatField
  as_given k x = written_field (record { number = k; value = x })

  abbrev AreTaken : Option NodeKind → Value → Type 0
  AreTaken kind x = AllByRecursion (λ (m : ℕ). takes kind (slice_get all m) ≡ true) (nodes_of x)

  typed_is : (t : FieldType) (x : Value) → IsFit numbers (Some x) → type_of x ≡ t → typed t (written_value x) numbers ≡ Ok x
  typed_is t x fit e =
      ap (λ (k : FieldType). typed k (written_value x) numbers) (sym e)
      ∙ (ap (λ (r : RawValue ℕ). typed (type_of x) r numbers) (sym (placed_same x)) ∙ typed_again x same numbers (fit.named x refl) (fit.sound x refl))

  accepted_is : (access : Access) (kind : Option NodeKind) (k : ℕ) (x : Value) → is_initial access ≡ true → AreTaken kind x → IsOkay (accepted all access kind (as_given k x) x)
  accepted_is access kind k x i h =
      let t : all_taken kind all (inner_nodes (written_value x)) ≡ true =
      ap (λ (l : List ℕ). all_taken kind all l) (inner_is x) ∙ taken_all kind all (nodes_of x) h in
      accepted_okay (is_initial access) (all_taken kind all (inner_nodes (written_value x))) (fault NotInitial 0) (fault BadChild 0) (Some x) i t

  -- ---- a field of a type

  pub given_okay : (e : FieldRowView) (k : ℕ) (x : Value) → type_of x ≡ e.field_type → IsFit numbers (Some x) → is_initial e.access ≡ true → in_range e.name x ≡ true → AreTaken e.kind x
      → IsOkay (field_value all numbers e (Some (as_given k x)))
  unfolding field_value
  given_okay e k x t fit i r h =
      let f : FlatField = as_given k x in
      not_turned (is_rotation e.field_type) (dropped_rotation e f) (typed_value numbers e.field_type f >>= accepted_in_range all e f) (no_turn x e.field_type t)
      (typed_then 0 (typed e.field_type (written_value x) numbers) x (accepted_in_range all e f) (typed_is e.field_type x fit t)
      (ranged_okay (in_range e.name x) (fault ValueRange 0) (accepted all e.access e.kind f x) r (accepted_is e.access e.kind k x i h)))

  pub nothing_okay : (e : FieldRowView) → IsOkay (field_value all numbers e None)
  unfolding field_value
  nothing_okay e = tt

  -- what is asked of a value that stands there
  pub record IsTaken (e : FieldRowView) (x : Value) : Type 0 where
    pub typed_as : type_of x ≡ e.field_type
    pub fit : IsFit numbers (Some x)
    pub initial : is_initial e.access ≡ true
    pub ranged : in_range e.name x ≡ true
    pub taken : AreTaken e.kind x

  pub row_okay : (e : FieldRowView) (k : ℕ) (o : Option Value)
      → ((d : FieldDefault) (x : Value) → e.default ≡ Some d → is_default d x ≡ false → o ≡ Some x → IsTaken e x)
      → IsOkay (field_value all numbers e (given_by k (unless_default e.default o)))
  row_okay e k o h = by_default e.default refl o refl where
    by_test : (d : FieldDefault) (x : Value) → e.default ≡ Some d → o ≡ Some x → (b : Bool) → is_default d x ≡ b
        → IsOkay (field_value all numbers e (given_by k (if b then None else Some x)))
    by_test d x is there true q = nothing_okay e
    by_test d x is there false q = let t = h d x is q there in given_okay e k x t.typed_as t.fit t.initial t.ranged t.taken

    by_default : (d : Option FieldDefault) → e.default ≡ d → (p : Option Value) → o ≡ p
        → IsOkay (field_value all numbers e (given_by k (unless_default d p)))
    by_default None is p there = nothing_okay e
    by_default (Some d) is None there = nothing_okay e
    by_default (Some d) is (Some x) there = by_test d x is there (is_default d x) refl

  -- ---- a field that a Script declares

  unset_okay : (d : Declaration ℕ) → is_rotation d.field_type ≡ false → IsOkay (declared_value all numbers d None)
  unfolding declared_value
  unset_okay d r = not_turned (is_rotation d.field_type) (Err (fault RotationUnsupported d.line)) (Ok (default_of (declaration_entry d))) r tt

  set_okay : (d : Declaration ℕ) (k : ℕ) (x : Value) → type_of x ≡ d.field_type → IsFit numbers (Some x) → is_initial d.access ≡ true → AreTaken None x
      → IsOkay (declared_value all numbers d (Some (as_given k x)))
  unfolding declared_value
  set_okay d k x t fit i h =
      let f : FlatField = as_given k x in
      not_turned (is_rotation d.field_type) (no_rotation f) (typed_value numbers d.field_type f >>= accepted all d.access None f) (no_turn x d.field_type t)
      (typed_then 0 (typed d.field_type (written_value x) numbers) x (accepted all d.access None f) (typed_is d.field_type x fit t)
      (accepted_is d.access None k x i h))

  pub declared_read : (d : Declaration ℕ) (k : ℕ) (o : Option Value) → is_rotation d.field_type ≡ false
      → ((x : Value) → o ≡ Some x → (type_of x ≡ d.field_type) × IsFit numbers (Some x) × AreTaken None x)
      → IsOkay (declared_value all numbers d (given_by k (if is_initial d.access then o else None)))
  declared_read d k o r h = by_access (is_initial d.access) refl o refl where
    by_access : (i : Bool) → is_initial d.access ≡ i → (p : Option Value) → o ≡ p → IsOkay (declared_value all numbers d (given_by k (if i then p else None)))
    by_access false i p there = unset_okay d r
    by_access true i None there = unset_okay d r
    by_access true i (Some x) there = let t = h x there in set_okay d k x t.0 t.1 i t.2
