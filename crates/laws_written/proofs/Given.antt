-- What is given to a field is found by the field's number.
use Rattle.std.proofs.Common.{◌≡◌, ℕ, zero, suc, ◌+◌, ◌<◌, ◌==◌, Bool, true, false, if◌then◌else◌, List, [], ◌∷◌, ◌++◌, length, map, Option, Some, None, slice_get, refl, sym, ap, ◌∙◌, arith, eq-eqb, ne_eqb}
use Rattle.std.specs.Option.{option_and_then}
use Rattle.x3d_values.specs.declared.fields.Fields.{Fields}
use Rattle.x3d_values.specs.declared.value.Value.{Value}
use Rattle.x3d_values.specs.Tables.{FieldRowView}
use Rattle.proto_flat.specs.declared.flat.FlatField.{FlatField}
use Rattle.scene_core.specs.declared.row.DeclaredField.{DeclaredField}
use Rattle.scene_core.specs.Parts.{given}
use Rattle.scene_core.specs.Scene.{SceneView}
use Rattle.laws_written.proofs.NumberedLists.{some_is}
use Rattle.laws_written.proofs.Made.{behind, front}
use Rattle.laws_written.specs.Fields.{HeldField, declared_held, declared_value, held_by, rows_held, unless_default, value_now, written_field}

-- ---- fields one after the other, those that hold something

abbrev pub held_from : ℕ → List (Option Value) → List HeldField
held_from number [] = []
held_from number (o ∷ os) = held_by number o ++ held_from (number + 1) os

abbrev pub given_by : ℕ → Option Value → Option FlatField
given_by number None = None
given_by number (Some v) = Some (written_field (record { number = number; value = v }))

abbrev pub all_written : List HeldField → List FlatField
all_written hs = map written_field hs

abbrev found : Bool → FlatField → Option FlatField → Option FlatField
found b f o = if b then Some f else o

same_number : (n : ℕ) → (n == n) ≡ true
same_number n = eq-eqb n n refl

higher_number : (n m : ℕ) → n < m → (n == m) ≡ false
higher_number n m l = ne_eqb n m (λ e. omega (arith, l, e))

other_number : (n m : ℕ) → m < n → (n == m) ≡ false
other_number n m l = ne_eqb n m (λ e. omega (arith, l, e))

given_none : (number wanted : ℕ) (os : List (Option Value)) → wanted < number → given (all_written (held_from number os)) wanted ≡ None
given_none number wanted [] l = refl
given_none number wanted (None ∷ os) l = given_none (number + 1) wanted os (omega (arith, l))
given_none number wanted (Some v ∷ os) l =
    ap (λ (b : Bool). found b (written_field (record { number = number; value = v })) (given (all_written (held_from (number + 1) os)) wanted)) (other_number number wanted l)
    ∙ given_none (number + 1) wanted os (omega (arith, l))

abbrev pub slot : List (Option Value) → ℕ → Option Value
slot os i = option_and_then (λ o. o) (slice_get os i)

pub given_at : (number : ℕ) (os : List (Option Value)) (i : ℕ) → given (all_written (held_from number os)) (number + i) ≡ given_by (number + i) (slot os i)
given_at number [] i = refl
given_at number (None ∷ os) zero =
    given_none (number + 1) (number + 0) os (omega arith)
given_at number (None ∷ os) (suc i) =
    let e : number + suc i ≡ number + 1 + i = omega arith in
    ap (λ (k : ℕ). given (all_written (held_from (number + 1) os)) k) e
    ∙ (given_at (number + 1) os i ∙ ap (λ (k : ℕ). given_by k (slot os i)) (sym e))
given_at number (Some v ∷ os) zero =
    let e : number + 0 ≡ number = omega arith in
    ap (λ (k : ℕ). given (all_written (held_from number (Some v ∷ os))) k) e
    ∙ (ap (λ (b : Bool). found b (written_field (record { number = number; value = v })) (given (all_written (held_from (number + 1) os)) number)) (same_number number)
    ∙ ap (λ (k : ℕ). given_by k (Some v)) (sym e))
given_at number (Some v ∷ os) (suc i) =
    let e : number + suc i ≡ number + 1 + i = omega arith in
    ap (λ (b : Bool). found b (written_field (record { number = number; value = v })) (given (all_written (held_from (number + 1) os)) (number + suc i)))
    (higher_number number (number + suc i) (omega arith))
    ∙ (ap (λ (k : ℕ). given (all_written (held_from (number + 1) os)) k) e
    ∙ (given_at (number + 1) os i ∙ ap (λ (k : ℕ). given_by k (slot os i)) (sym e)))

-- ---- the fields of a node

held_append : (number : ℕ) (os ps : List (Option Value)) → held_from number (os ++ ps) ≡ held_from number os ++ held_from (number + length os) ps
held_append number [] ps = let e : number ≡ number + 0 = omega arith in ap (λ (k : ℕ). held_from k ps) e
held_append number (o ∷ os) ps =
    let e : number + 1 + length os ≡ number + suc (length os) = omega arith in
    ap (λ (l : List HeldField). held_by number o ++ l) (held_append (number + 1) os ps ∙ ap (λ (k : ℕ). held_from (number + 1) os ++ held_from k ps) e)
    ∙ sym (joined (held_by number o) (held_from (number + 1) os) (held_from (number + suc (length os)) ps)) where
      joined : {A : Type 0} (xs ys zs : List A) → xs ++ ys ++ zs ≡ xs ++ (ys ++ zs)
      joined [] ys zs = refl
      joined {A = A} (x ∷ xs) ys zs = ap (λ (l : List A). x ∷ l) (joined xs ys zs)

module _ (s : SceneView) (state : List Fields) (n : ℕ) where
  -- what is written of each of these rows, the first of which has that number
  abbrev pub row_slots : ℕ → List FieldRowView → List (Option Value)
  row_slots number [] = []
  row_slots number (e ∷ es) = unless_default e.default (value_now s state n number e.access e.field_type) ∷ row_slots (number + 1) es

  abbrev pub declared_slots : ℕ → List DeclaredField → List (Option Value)
  declared_slots number [] = []
  declared_slots number (d ∷ ds) = declared_value s state n number d ∷ declared_slots (number + 1) ds

  rows_are : (number : ℕ) (es : List FieldRowView) → rows_held s state n number es ≡ held_from number (row_slots number es)
  rows_are number [] = refl
  rows_are number (e ∷ es) =
      ap (λ (l : List HeldField). held_by number (unless_default e.default (value_now s state n number e.access e.field_type)) ++ l) (rows_are (number + 1) es)

  declared_are : (number : ℕ) (ds : List DeclaredField) → declared_held s state n number ds ≡ held_from number (declared_slots number ds)
  declared_are number [] = refl
  declared_are number (d ∷ ds) = ap (λ (l : List HeldField). held_by number (declared_value s state n number d) ++ l) (declared_are (number + 1) ds)

  pub rows_many : (number : ℕ) (es : List FieldRowView) → length (row_slots number es) ≡ length es
  rows_many number [] = refl
  rows_many number (e ∷ es) = ap (λ (k : ℕ). suc k) (rows_many (number + 1) es)

  abbrev pub slots : List FieldRowView → List DeclaredField → List (Option Value)
  slots es ds = row_slots 0 es ++ declared_slots (length es) ds

  pub fields_are : (es : List FieldRowView) (ds : List DeclaredField) → rows_held s state n 0 es ++ declared_held s state n (length es) ds ≡ held_from 0 (slots es ds)
  fields_are es ds =
      let e : 0 + length (row_slots 0 es) ≡ length es = ap (λ (k : ℕ). 0 + k) (rows_many 0 es) ∙ omega arith in
      ap (λ (l : List HeldField). l ++ declared_held s state n (length es) ds) (rows_are 0 es)
      ∙ (ap (λ (l : List HeldField). held_from 0 (row_slots 0 es) ++ l) (declared_are (length es) ds)
      ∙ (ap (λ (k : ℕ). held_from 0 (row_slots 0 es) ++ held_from k (declared_slots (length es) ds)) (sym e)
      ∙ sym (held_append 0 (row_slots 0 es) (declared_slots (length es) ds))))

  row_slot : (number : ℕ) (es : List FieldRowView) (i : ℕ) (e : FieldRowView) → slice_get es i ≡ Some e
      → slice_get (row_slots number es) i ≡ Some (unless_default e.default (value_now s state n (number + i) e.access e.field_type))
  row_slot number [] i e h = absurd cc
  row_slot number (x ∷ es) zero e h =
      let here : number ≡ number + 0 = omega arith in
      ap (λ (y : FieldRowView). Some (unless_default y.default (value_now s state n number y.access y.field_type))) (some_is x e h)
      ∙ ap (λ (k : ℕ). Some (unless_default e.default (value_now s state n k e.access e.field_type))) here
  row_slot number (x ∷ es) (suc i) e h =
      let here : number + 1 + i ≡ number + suc i = omega arith in
      row_slot (number + 1) es i e h ∙ ap (λ (k : ℕ). Some (unless_default e.default (value_now s state n k e.access e.field_type))) here

  declared_slot : (number : ℕ) (ds : List DeclaredField) (i : ℕ) (d : DeclaredField) → slice_get ds i ≡ Some d
      → slice_get (declared_slots number ds) i ≡ Some (declared_value s state n (number + i) d)
  declared_slot number [] i d h = absurd cc
  declared_slot number (x ∷ ds) zero d h =
      let here : number ≡ number + 0 = omega arith in
      ap (λ (y : DeclaredField). Some (declared_value s state n number y)) (some_is x d h) ∙ ap (λ (k : ℕ). Some (declared_value s state n k d)) here
  declared_slot number (x ∷ ds) (suc i) d h =
      let here : number + 1 + i ≡ number + suc i = omega arith in
      declared_slot (number + 1) ds i d h ∙ ap (λ (k : ℕ). Some (declared_value s state n k d)) here

  module _ (es : List FieldRowView) (ds : List DeclaredField) where
    abbrev pub fields : List FlatField
    fields = all_written (rows_held s state n 0 es ++ declared_held s state n (length es) ds)

    given_slot : (k : ℕ) → given fields k ≡ given_by k (slot (slots es ds) k)
    given_slot k =
        let here : k ≡ 0 + k = omega arith in
        ap (λ (l : List HeldField). given (all_written l) k) (fields_are es ds)
        ∙ (ap (λ (j : ℕ). given (all_written (held_from 0 (slots es ds))) j) here
        ∙ (given_at 0 (slots es ds) k ∙ ap (λ (j : ℕ). given_by j (slot (slots es ds) k)) (sym here)))

    pub row_given : (i : ℕ) (e : FieldRowView) → slice_get es i ≡ Some e
        → given fields i ≡ given_by i (unless_default e.default (value_now s state n i e.access e.field_type))
    row_given i e h =
        let here : 0 + i ≡ i = omega arith in
        let at = front (row_slots 0 es) (declared_slots (length es) ds) i (unless_default e.default (value_now s state n (0 + i) e.access e.field_type)) (row_slot 0 es i e h) in
        given_slot i ∙ (ap (λ (o : Option (Option Value)). given_by i (option_and_then (λ o. o) o)) at
        ∙ ap (λ (k : ℕ). given_by i (unless_default e.default (value_now s state n k e.access e.field_type))) here)

    pub declared_given : (i : ℕ) (d : DeclaredField) → slice_get ds i ≡ Some d
        → given fields (length es + i) ≡ given_by (length es + i) (declared_value s state n (length es + i) d)
    declared_given i d h =
        let at : slice_get (slots es ds) (length es + i) ≡ slice_get (declared_slots (length es) ds) i =
        ap (λ (k : ℕ). slice_get (slots es ds) (k + i)) (sym (rows_many 0 es)) ∙ behind (row_slots 0 es) (declared_slots (length es) ds) i in
        given_slot (length es + i)
        ∙ ap (λ (o : Option (Option Value)). given_by (length es + i) (option_and_then (λ o. o) o)) (at ∙ declared_slot (length es) ds i d h)
