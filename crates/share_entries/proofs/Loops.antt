-- Entries read or written one after the other, as loops do.
use Rattle.std.proofs.Common.{◌≡◌, ℕ, suc, zero, ◌-◌, ◌+◌, ◌≤◌, ◌<◌, Bool, true, false, List, [], ◌∷◌, ◌++◌, length, get_or, take, Option, Some, None, refl, sym, ap, ◌∙◌, append_assoc, arith}
use Rattle.std.specs.Prelude.{◌&&◌}
use Rattle.std.specs.List.{flat_map, fold}
use Rattle.std.proofs.lemmas.List.{append-nil, take_all}
use Rattle.std.proofs.lemmas.List.Sums.{fold_more}
use Rattle.byte_codec.specs.Codec.{Codec, ◌>>?◌, many_at, all_fit}

-- ---- reading

-- items that were read before, and those that are read there
abbrev pub after_those : {A : Type 0} → List A → Option (List A × List ℕ) → Option (List A × List ℕ)
after_those front None = None
after_those front (Some x) = Some (front ++ x.0, x.1)

abbrev put_first : {A : Type 0} → A → List A × List ℕ → Option (List A × List ℕ)
put_first y x = Some (y ∷ x.0, x.1)

abbrev read_to : {A : Type 0} → List A → List ℕ → Option (List A × List ℕ)
read_to items rest = Some (items, rest)

regroup : {A : Type 0} (front : List A) (y : A) (r : Option (List A × List ℕ)) → after_those front (r >>? put_first y) ≡ after_those (front ++ y ∷ []) r
regroup front y None = refl
regroup front y (Some x) = ap (λ ys. read_to ys x.1) (sym (append_assoc front (y ∷ []) x.0))

module _ {A : Type 0} (c : Codec A) (front : List A) (count i : ℕ) (bytes : List ℕ) (total : Option (List A × List ℕ)) (so_far : after_those front (many_at c (count - i) bytes) ≡ total) where
  pub goes_on : (y : A) (after : List ℕ) (new : List A) → new ≡ front ++ y ∷ [] → i < count → c.read bytes ≡ Some (y, after) → after_those new (many_at c (count - (i + 1)) after) ≡ total
  unfolding many_at
  goes_on y after new pushed lt h =
      let k : count - i ≡ suc (count - (i + 1)) = omega arith in
      let one : after_those front (many_at c (count - i) bytes) ≡ after_those (front ++ y ∷ []) (many_at c (count - (i + 1)) after) = rw (k, h) (regroup front y (many_at c (count - (i + 1)) after)) in
      ap (λ (items : List A). after_those items (many_at c (count - (i + 1)) after)) pushed ∙ sym one ∙ so_far

  pub stops : i < count → c.read bytes ≡ None → total ≡ None
  unfolding many_at
  stops lt h =
      let k : count - i ≡ suc (count - (i + 1)) = omega arith in
      let one : after_those front (many_at c (count - i) bytes) ≡ None = rw (k, h) refl in
      sym so_far ∙ one

  pub is_done : count ≤ i → total ≡ read_to front bytes
  unfolding many_at
  is_done le =
      let k : count - i ≡ 0 = omega arith in
      let one : after_those front (many_at c (count - i) bytes) ≡ read_to front bytes = rw k (ap (λ ys. read_to ys bytes) (append-nil front)) in
      sym so_far ∙ one

-- ---- writing

flat_map-next : {A : Type 0} (f : A → List ℕ) (xs : List A) (i : ℕ) (d : A) → i < length xs → flat_map f (take (suc i) xs) ≡ flat_map f (take i xs) ++ f (get_or xs i d)
flat_map-next f [] i d lt = absurd (omega (arith, lt))
flat_map-next f (x ∷ xs) zero d lt = append-nil (f x)
flat_map-next f (x ∷ xs) (suc i) d lt = ap (λ z. f x ++ z) (flat_map-next f xs i d (omega (arith, lt))) ∙ sym (append_assoc (f x) (flat_map f (take i xs)) (f (get_or xs i d)))

-- one item more was appended
pub one_more : {A : Type 0} (f : A → List ℕ) (xs : List A) (i : ℕ) (d : A) (old now new : List ℕ) → i < length xs → now ≡ old ++ flat_map f (take i xs) → new ≡ now ++ f (get_or xs i d) → new ≡ old ++ flat_map f (take (i + 1) xs)
one_more f xs i d old now new lt so_far more =
    let next : suc i ≡ i + 1 = omega arith in
    more ∙ ap (λ z. z ++ f (get_or xs i d)) so_far ∙ append_assoc old (flat_map f (take i xs)) (f (get_or xs i d))
    ∙ ap (λ z. old ++ z) (sym (flat_map-next f xs i d lt))
    ∙ ap (λ n. old ++ flat_map f (take n xs)) next

pub all_appended : {A : Type 0} (f : A → List ℕ) (xs : List A) (i : ℕ) (old now : List ℕ) → length xs ≤ i → now ≡ old ++ flat_map f (take i xs) → now ≡ old ++ flat_map f xs
all_appended f xs i old now le so_far = so_far ∙ ap (λ ys. old ++ flat_map f ys) (take_all i xs le)

fit_next : {A : Type 0} (c : Codec A) (xs : List A) (i : ℕ) (d : A) → i < length xs → all_fit c (take i xs) ≡ true → c.fits (get_or xs i d) ≡ true → all_fit c (take (suc i) xs) ≡ true
fit_next c [] i d lt so_far fits = absurd (omega (arith, lt))
fit_next c (x ∷ xs) zero d lt so_far fits = rw fits refl
fit_next c (x ∷ xs) (suc i) d lt so_far fits = and_next (c.fits x) (all_fit c (take i xs)) (all_fit c (take (suc i) xs)) so_far (λ e. fit_next c xs i d (omega (arith, lt)) e fits)
  where
    and_next : (a b b' : Bool) → (a && b) ≡ true → (b ≡ true → b' ≡ true) → (a && b') ≡ true
    and_next true b b' e f = f e
    and_next false b b' e f = e

pub fits_one_more : {A : Type 0} (c : Codec A) (xs : List A) (i : ℕ) (d : A) → i < length xs → all_fit c (take i xs) ≡ true → c.fits (get_or xs i d) ≡ true → all_fit c (take (i + 1) xs) ≡ true
fits_one_more c xs i d lt so_far fits =
    let next : suc i ≡ i + 1 = omega arith in
    ap (λ n. all_fit c (take n xs)) (sym next) ∙ fit_next c xs i d lt so_far fits

pub all_fit_all : {A : Type 0} (c : Codec A) (xs : List A) (i : ℕ) → length xs ≤ i → all_fit c (take i xs) ≡ true → all_fit c xs ≡ true
all_fit_all c xs i le so_far = ap (λ ys. all_fit c ys) (sym (take_all i xs le)) ∙ so_far

-- ---- chains

pub fold_next : {X Y : Type 0} (f : Y → X → Y) (a : Y) (xs : List X) (i : ℕ) (d : X) (now next : Y) → i < length xs → now ≡ fold f a (take i xs) → next ≡ f now (get_or xs i d) → next ≡ fold f a (take (i + 1) xs)
fold_next f a xs i d now next lt so_far step =
    step ∙ ap (λ y. f y (get_or xs i d)) so_far ∙ sym (fold_more f a xs i d lt)
