-- Ranges that take further rows.
use Rattle.std.proofs.Common.{◌≡◌, ℕ, zero, suc, ◌-◌, ◌<◌, ◌≤◌, ◌⊎◌, inl, inr, List, [], ◌∷◌, ◌++◌, Some, length, set, Result, Ok, Err, refl, sym, ap, ◌∙◌, subst, arith}
use Rattle.std.specs.Prelude.{slice_get, OnOk}
use Rattle.std.proofs.lemmas.Option.{same_Some, none-some, slice_get_within}
use Rattle.pick_core.specs.declared.ranges.RowRange.{RowRange}
use Rattle.pick_core.specs.Ranges.{IsInRange, IsAt, IsAmong, IsLonger, IsWider, IsGrown}

-- ---- places of a list

module _ {A : Type 0} where
  pub get-pushed : (xs : List A) (x y : A) (n : ℕ) → slice_get xs n ≡ Some y → slice_get (xs ++ x ∷ []) n ≡ Some y
  get-pushed [] x y n e = absurd (none-some y e)
  get-pushed (z ∷ xs) x y zero e = e
  get-pushed (z ∷ xs) x y (suc n) e = get-pushed xs x y n e

  pub get-last : (xs : List A) (x : A) → slice_get (xs ++ x ∷ []) (length xs) ≡ Some x
  get-last [] x = refl
  get-last (z ∷ xs) x = get-last xs x

  pub get-put : (xs : List A) (i : ℕ) (x : A) → i < length xs → slice_get (set xs i x) i ≡ Some x
  get-put [] i x h = absurd (omega arith)
  get-put (z ∷ xs) zero x h = refl
  get-put (z ∷ xs) (suc i) x h = get-put xs i x (omega arith)

  -- what a list has at a place after one is put in: this one, or what stood there
  pub get-either : (xs : List A) (i : ℕ) (x : A) (n : ℕ) (y : A) → slice_get xs n ≡ Some y → ((n ≡ i) × (slice_get (set xs i x) n ≡ Some x)) ⊎ (slice_get (set xs i x) n ≡ Some y)
  get-either [] i x n y e = absurd (none-some y e)
  get-either (z ∷ xs) zero x zero y e = inl (refl, refl)
  get-either (z ∷ xs) zero x (suc n) y e = inr e
  get-either (z ∷ xs) (suc i) x zero y e = inr e
  get-either (z ∷ xs) (suc i) x (suc n) y e = cases (get-either xs i x n y e)
    where
      cases : ((n ≡ i) × (slice_get (set xs i x) n ≡ Some x)) ⊎ (slice_get (set xs i x) n ≡ Some y) → ((suc n ≡ suc i) × (slice_get (set xs i x) n ≡ Some x)) ⊎ (slice_get (set xs i x) n ≡ Some y)
      cases (inl both) = inl (ap suc both.0, both.1)
      cases (inr same) = inr same

pub longer-pushed : (old now : List ℕ) (x : ℕ) → IsLonger old now → IsLonger old (now ++ x ∷ [])
longer-pushed old now x h n y e = get-pushed now x y n (h n y e)

-- ---- ranges

pub wider-same : (r : RowRange) → IsWider r r
wider-same r = record { next = refl; first = omega arith; last = omega arith }

pub grown-same : (rs : List RowRange) → IsGrown rs rs
grown-same rs n x e = (x, e, wider-same x)

pub grown-pushed : (rs : List RowRange) (r : RowRange) → IsGrown rs (rs ++ r ∷ [])
grown-pushed rs r n x e = (x, get-pushed rs r x n e, wider-same x)

-- a wider range at a place
pub grown-put : (rs : List RowRange) (i : ℕ) (old new : RowRange) → slice_get rs i ≡ Some old → IsWider old new → IsGrown rs (set rs i new)
grown-put rs i old new at wide n x e = cases (get-either rs i new n x e)
  where
    cases : ((n ≡ i) × (slice_get (set rs i new) n ≡ Some new)) ⊎ (slice_get (set rs i new) n ≡ Some x) → (y : RowRange) × (slice_get (set rs i new) n ≡ Some y) × IsWider x y
    cases (inl both) =
        let same : old ≡ x = same_Some old x (sym at ∙ (ap (slice_get rs) (sym both.0) ∙ e)) in
        (new, both.1, subst (λ r. IsWider r new) same wide)
    cases (inr there) = (x, there, wider-same x)

-- what is among ranges is among those that they grow to
pub among-grown : (old new : List RowRange) → IsGrown old new → (most more : ℕ) → most ≤ more → (place row : ℕ) → IsAmong old most place row → IsAmong new more place row
among-grown old new grown zero more h place row a = absurd a
among-grown old new grown (suc most) zero h place row a = absurd (omega arith)
among-grown old new grown (suc most) (suc more) h place row a = cases a.2 (λ rest. among-grown old new grown most more (omega arith) a.0.next row rest)
  where
    cases : IsInRange a.0 row ⊎ IsAmong old most a.0.next row → (IsAmong old most a.0.next row → IsAmong new more a.0.next row) → IsAmong new (suc more) place row
    cases (inl is) on =
        let grew = grown place a.0 a.1 in
        (grew.0, grew.1, inl (omega (arith, grew.2.first, is.0), omega (arith, grew.2.last, is.1)))
    cases (inr rest) on =
        let grew = grown place a.0 a.1 in
        (grew.0, grew.1, inr (subst (λ p. IsAmong new more p row) (sym grew.2.next) (on rest)))

-- ---- rows of a node

abbrev pub Has : List ℕ → List RowRange → ℕ → ℕ → Type 0
Has firsts rs node row = (place : ℕ) × (slice_get firsts node ≡ Some place) × IsAmong rs (length rs) place row

pub has-grown : (firsts longer : List ℕ) (rs grown : List RowRange) → IsLonger firsts longer → IsGrown rs grown → length rs ≤ length grown → (n k : ℕ) → Has firsts rs n k → Has longer grown n k
has-grown firsts longer rs grown l g le n k h =
    (h.0, l n h.0 h.1, among-grown rs grown g (length rs) (length grown) le h.0 k h.2)

pub has-at : (firsts : List ℕ) (rs : List RowRange) (node place row : ℕ) → slice_get firsts node ≡ Some place → IsAt rs place row → Has firsts rs node row
has-at firsts rs node place row e a =
    let one : length rs ≡ suc (length rs - 1) = omega (arith, slice_get_within rs place a.0 a.1) in
    (place, e, subst (λ most. IsAmong rs most place row) (sym one) (a.0, a.1, inl a.2))

-- what follows on success
pub on_ok-by : {E A B : Type 0} (result : Result (Unit {0}) E) → OnOk result A → (A → B) → OnOk result B
on_ok-by (Ok u) a f = f a
on_ok-by (Err e) a f = a
