-- A field that a route names is the field of its own name as well.
use Rattle.std.proofs.Common.{◌≡◌, ℕ, suc, ◌+◌, ◌-◌, Bool, true, false, List, [], ◌∷◌, codes, length, take, drop, nat_eq, option_map, Option, Some, None, if◌then◌else◌, slice_get, refl, sym, ap, subst, ◌∙◌, arith}
use Rattle.std.specs.Prelude.{unwrap_or}
use Rattle.std.specs.Cmp.Lexicographic.{pointwise}
use Rattle.std.specs.List.{starts_with, ends_with}
use Rattle.std.specs.Option.{option_and_then, option_or}
use Rattle.std.proofs.lemmas.Slice.Eq.{bytes_eq-Decides}
use denote.Enum.Bare.{sameb}
use Rattle.x3d_values.specs.contracts.field_type.FieldType as types
use Rattle.x3d_values.specs.declared.field_type.FieldType.TheVariants.{SFRotation}
use Rattle.x3d_values.specs.declared.table.FieldRow.{FieldRow}
use Rattle.x3d_values.specs.Access.{is_exposed}
use Rattle.x3d_values.specs.Aliases.{set_alias, changed_alias}
use Rattle.x3d_values.specs.Tables.{FieldRowView, numbered, row_named}
use Rattle.route_core.specs.Names.{no_rotation, if_exposed, exact, exposed, target_field, source_field}

abbrev some : {A : Type 0} → A → Option A
some x = Some x

row_is : (a b : FieldRow) → some a ≡ some b → a ≡ b
row_is a b e = cc

-- the row of that name, where the first has number n
record IsNamed (n : ℕ) (name : List ℕ) (es : List FieldRowView) (row : FieldRow) : Type 0 where
  index : ℕ
  entry : FieldRowView
  number : row.number ≡ n + index
  is : slice_get es index ≡ Some entry
  same : entry.name ≡ name

row_by : (n : ℕ) (name : List ℕ) (x : FieldRowView) (xs : List FieldRowView) (row : FieldRow) (o : Option FieldRow) → (o ≡ Some row → IsNamed (n + 1) name xs row) → (b : Bool) → pointwise nat_eq name x.name ≡ b
    → (if b then Some (numbered n x) else o) ≡ Some row → IsNamed n name (x ∷ xs) row
row_by n name x xs row o k true t h =
    let same : n ≡ row.number = ap (λ (r : FieldRow). r.number) (row_is (numbered n x) row h) in
    record { index = 0; entry = x; number = omega (arith, same); is = refl; same = sym ((bytes_eq-Decides name x.name).0 t) }
row_by n name x xs row o k false t h =
    let f = k h in record { index = suc f.index; entry = f.entry; number = omega (arith, f.number); is = f.is; same = f.same }

row_found : (n : ℕ) (name : List ℕ) (es : List FieldRowView) (row : FieldRow) → row_named n name es ≡ Some row → IsNamed n name es row
row_found n name [] row e = absurd cc
row_found n name (x ∷ xs) row e =
    row_by n name x xs row (row_named (n + 1) name xs) (λ h. row_found (n + 1) name xs row h) (pointwise nat_eq name x.name) refl e

-- the name of the field of that number
abbrev pub own_name : List FieldRowView → ℕ → List ℕ
own_name es k = unwrap_or (option_map (λ (e : FieldRowView). e.name) (slice_get es k)) []

module _ (es : List FieldRowView) where
  -- the row stands among these, and its own name is that of no other
  pub record IsOwn (row : FieldRow) : Type 0 where
    pub entry : FieldRowView
    pub is : slice_get es row.number ≡ Some entry
    pub own : exact es (own_name es row.number) ≡ Some row

  unless : (b : Bool) (r row : FieldRow) → (if b then None else Some r) ≡ Some row → r ≡ row
  unless true r row e = absurd cc
  unless false r row e = row_is r row e

  when : (b : Bool) (r row : FieldRow) → (if b then Some r else None) ≡ Some row → r ≡ row
  when true r row e = row_is r row e
  when false r row e = absurd cc

  and_then : (f : FieldRow → Option FieldRow) → ((r row : FieldRow) → f r ≡ Some row → r ≡ row) → (o : Option FieldRow) (row : FieldRow)
      → option_and_then f o ≡ Some row → o ≡ Some row
  and_then f k None row e = absurd cc
  and_then f k (Some r) row e = ap (λ (x : FieldRow). Some x) (k r row e)

  exact_own : (name : List ℕ) (row : FieldRow) → exact es name ≡ Some row → IsOwn row
  exact_own name row e =
      let f = row_found 0 name es row (and_then no_rotation (λ r row h. unless (sameb types.the_type r.field_type SFRotation) r row h) (row_named 0 name es) row e) in
      let index : f.index ≡ row.number = omega (arith, f.number) in
      let there : slice_get es row.number ≡ Some f.entry = subst (λ (k : ℕ). slice_get es k ≡ Some f.entry) index f.is in
      let called : own_name es row.number ≡ name = ap (λ (o : Option FieldRowView). unwrap_or (option_map (λ (x : FieldRowView). x.name) o) []) there ∙ f.same in
      record { entry = f.entry; is = there; own = ap (exact es) called ∙ e }

  exposed_own : (name : List ℕ) (row : FieldRow) → exposed es name ≡ Some row → IsOwn row
  exposed_own name row e = exact_own name row (and_then if_exposed (λ r row h. when (is_exposed r.access) r row h) (exact es name) row e)

  if_own : (b : Bool) (name : List ℕ) (row : FieldRow) → (if b then exposed es name else None) ≡ Some row → IsOwn row
  if_own true name row e = exposed_own name row e
  if_own false name row e = absurd cc

  either_own : (a b : Option FieldRow) (row : FieldRow) → (a ≡ Some row → IsOwn row) → (b ≡ Some row → IsOwn row) → option_or a b ≡ Some row → IsOwn row
  either_own None b row f g e = g e
  either_own (Some x) b row f g e = f e

  pub source_own : (name : List ℕ) (row : FieldRow) → source_field es name ≡ Some row → IsOwn row
  unfolding source_field
  source_own name row e =
      either_own (exact es name) (changed_alias (exposed es) name) row (exact_own name row)
      (if_own (ends_with nat_eq name (codes "_changed")) (take (length name - length (codes "_changed")) name) row) e

  pub target_own : (name : List ℕ) (row : FieldRow) → target_field es name ≡ Some row → IsOwn row
  unfolding target_field
  target_own name row e =
      either_own (exact es name) (set_alias (exposed es) name) row (exact_own name row)
      (if_own (starts_with nat_eq name (codes "set_")) (drop (length (codes "set_")) name) row) e

  pub source_again : (row : FieldRow) → IsOwn row → source_field es (own_name es row.number) ≡ Some row
  unfolding source_field
  source_again row h = ap (λ (o : Option FieldRow). option_or o (changed_alias (exposed es) (own_name es row.number))) h.own

  pub target_again : (row : FieldRow) → IsOwn row → target_field es (own_name es row.number) ≡ Some row
  unfolding target_field
  target_again row h = ap (λ (o : Option FieldRow). option_or o (set_alias (exposed es) (own_name es row.number))) h.own
