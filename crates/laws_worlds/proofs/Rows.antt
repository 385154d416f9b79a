-- Values by their rows.
use Rattle.std.proofs.Common.{◌≡◌, ℕ, zero, suc, ◌+◌, ◌≤◌, Bool, true, List, [], ◌∷◌, ◌++◌, length, map, zip, take, drop, Option, Some, None, slice_get, slice_set, option_map, refl, sym, subst, arith}
use Rattle.std.specs.Option.{option_and_then}
use Rattle.byte_codec.specs.Codec.{Codec, all_fit}
use Rattle.byte_codec.proofs.Laws.{both, and_true}
use Rattle.x3d_values.specs.declared.node_type.NodeType.{NodeType}
use Rattle.x3d_values.specs.declared.value.Value.{Value}
use Rattle.x3d_values.specs.Tables.{FieldRowView}
use Rattle.snapshot_codec.specs.Fields.{kept_field, kept_fits}
use Rattle.laws_worlds.specs.Ranges.{values_fit}

abbrev some : {A : Type 0} → A → Option A
some x = Some x

pub some_is : {A : Type 0} (x y : A) → some x ≡ some y → x ≡ y
some_is x y e = cc

-- what comes of a value that is there
pub then_some : {A B : Type 0} (f : A → Option B) (o : Option A) (y : B) → option_and_then f o ≡ Some y → (x : A) × (o ≡ Some x) × (f x ≡ Some y)
then_some f None y e = absurd cc
then_some f (Some x) y e = (x, refl, e)

pub map_some : {A B : Type 0} (f : A → B) (o : Option A) (y : B) → option_map f o ≡ Some y → (x : A) × (o ≡ Some x) × (f x ≡ y)
map_some f None y e = absurd cc
map_some f (Some x) y e = (x, refl, some_is (f x) y e)

pub get_left : {A : Type 0} (xs ys : List A) (i : ℕ) (x : A) → slice_get xs i ≡ Some x → slice_get (xs ++ ys) i ≡ Some x
get_left [] ys i x e = absurd cc
get_left (y ∷ xs) ys zero x e = e
get_left (y ∷ xs) ys (suc i) x e = get_left xs ys i x e

-- ---- a value for each row

-- what a snapshot has of the field of that row
abbrev pub kept_by : NodeType → ℕ → FieldRowView → Option Value → Bool
kept_by t n row value = kept_fits (kept_field t n row.access row.field_type) value

only_first : (n m : ℕ) → m ≡ n + 0 → m ≡ n
only_first n m k = omega (arith, k)

module _ (t : NodeType) where
  pub values-get : (n : ℕ) (rows : List FieldRowView) (values : List (Option Value)) (i m : ℕ) (row : FieldRowView) (value : Option Value) → values_fit t n rows values ≡ true → slice_get rows i ≡ Some row → slice_get values i ≡ Some value → m ≡ n + i → kept_by t m row value ≡ true
  values-get n [] values i m row value f p q k = absurd cc
  values-get n (x ∷ rows) [] i m row value f p q k = absurd cc
  values-get n (x ∷ rows) (y ∷ values) zero m row value f p q k =
      let b = both _ _ f in
      let same : m ≡ n = only_first n m k in
      rw (same, sym (some_is x row p), sym (some_is y value q)) b.0
  values-get n (x ∷ rows) (y ∷ values) (suc i) m row value f p q k = values-get (n + 1) rows values i m row value (both _ _ f).1 p q (omega (arith, k))

  pub values-set : (n : ℕ) (rows : List FieldRowView) (values : List (Option Value)) (i m : ℕ) (row : FieldRowView) (value : Option Value) → values_fit t n rows values ≡ true → slice_get rows i ≡ Some row → kept_by t m row value ≡ true → m ≡ n + i → values_fit t n rows (slice_set values i value) ≡ true
  values-set n [] values i m row value f p q k = absurd cc
  values-set n (x ∷ rows) [] i m row value f p q k = f
  values-set n (x ∷ rows) (y ∷ values) zero m row value f p q k =
      let b = both _ _ f in
      let same : m ≡ n = only_first n m k in
      and_true _ _ (subst (λ (r : FieldRowView). kept_by t n r value ≡ true) (sym (some_is x row p)) (subst (λ (j : ℕ). kept_by t j row value ≡ true) same q)) b.1
  values-set n (x ∷ rows) (y ∷ values) (suc i) m row value f p q k =
      let b = both _ _ f in
      and_true _ _ b.0 (values-set (n + 1) rows values i m row value b.1 p q (omega (arith, k)))

-- ---- items of one codec

module _ {A : Type 0} (c : Codec A) where
  pub all-get : (xs : List A) (i : ℕ) (x : A) → all_fit c xs ≡ true → slice_get xs i ≡ Some x → c.fits x ≡ true
  all-get [] i x f p = absurd cc
  all-get (y ∷ xs) zero x f p = rw (sym (some_is y x p)) (both _ _ f).0
  all-get (y ∷ xs) (suc i) x f p = all-get xs i x (both _ _ f).1 p

  pub all-take : (n : ℕ) (xs : List A) → all_fit c xs ≡ true → all_fit c (take n xs) ≡ true
  all-take zero xs f = refl
  all-take (suc n) [] f = refl
  all-take (suc n) (x ∷ xs) f = let b = both _ _ f in and_true _ _ b.0 (all-take n xs b.1)

  pub all-drop : (n : ℕ) (xs : List A) → all_fit c xs ≡ true → all_fit c (drop n xs) ≡ true
  all-drop zero xs f = f
  all-drop (suc n) [] f = refl
  all-drop (suc n) (x ∷ xs) f = all-drop n xs (both _ _ f).1

  -- what is made of two lists, item by item
  pub all-zip : (way : A × A → A) → ((x y : A) → c.fits x ≡ true → c.fits y ≡ true → c.fits (way (x, y)) ≡ true) → (xs ys : List A) → all_fit c xs ≡ true → all_fit c ys ≡ true → all_fit c (map way (zip xs ys)) ≡ true
  all-zip way keeps [] ys f g = refl
  all-zip way keeps (x ∷ xs) [] f g = refl
  all-zip way keeps (x ∷ xs) (y ∷ ys) f g =
      let a = both _ _ f in
      let b = both _ _ g in
      and_true _ _ (keeps x y a.0 b.0) (all-zip way keeps xs ys a.1 b.1)

  pub zip-length : (way : A × A → A) (xs ys : List A) → length (map way (zip xs ys)) ≤ length xs
  zip-length way [] ys = omega arith
  zip-length way (x ∷ xs) [] = omega arith
  zip-length way (x ∷ xs) (y ∷ ys) = let r = zip-length way xs ys in omega (arith, r)
