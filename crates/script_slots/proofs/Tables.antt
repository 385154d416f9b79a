-- Flags of scripts, and the lowest script that is due.
use Rattle.std.proofs.Common.{Bor, ◌≡◌, ℕ, ◌+◌, ◌<◌, ◌≤◌, ◌⊎◌, inl, inr, Bool, true, false, ◌&&◌, ◌||◌, List, [], ◌∷◌, ◌++◌, Option, Some, None, ◌∙◌, sym, zero, suc, refl, arith, length, get_or, set, drop, eqb-true, eq-eqb}
use Rattle.std.specs.Prelude.{◌==◌, not, IsSome, IfSome, IsTrue, option_copied}
use Rattle.std.specs.List.{find, list_any, range_with_len}
use Rattle.std.specs.BTreeMap.{is_at}
use Rattle.std.specs.BTreeSet.{BTreeSet, btree_set_len, contains, IsLowerBound}
use Rattle.std.specs.Ordering.{is_gt, nat_cmp}
use Rattle.std.proofs.lemmas.Bool.Decides.{nat_tests}
use Rattle.std.proofs.lemmas.Bool.{cases_eq}
use Rattle.std.proofs.lemmas.List.{drop_more, drop_all, get_or-set_other}
use Rattle.std.proofs.lemmas.List.Folds.{list_any-append}
use Rattle.script_slots.specs.Settling.{DueScriptsView, is_among, is_due, lowest_due}
use Rattle.script_slots.specs.Table.{AreFlags, IsTable}

-- ---- numbers among others

among-push : (ks : List ℕ) (k j : ℕ) → is_among (ks ++ k ∷ []) j ≡ (is_among ks j || ((k == j) || false))
among-push ks k j = list_any-append (λ n. n == j) ks (k ∷ [])

self : (k : ℕ) → (k == k) ≡ true
self k = eq-eqb k k refl

-- only the scripts of these are flagged
abbrev pub FlagsOnly : List Bool → List ℕ → Type 0
FlagsOnly flags numbers = (k : ℕ) → get_or flags k false ≡ true → is_among numbers k ≡ true

pub flag-within : (flags : List Bool) (k : ℕ) → get_or flags k false ≡ true → k < length flags
flag-within [] k h = cc
flag-within (b ∷ bs) zero h = omega arith
flag-within (b ∷ bs) (suc k) h = omega (arith, flag-within bs k h)

pub among-at : (ks : List ℕ) (i d : ℕ) → i < length ks → is_among ks (get_or ks i d) ≡ true
among-at [] i d h = absurd (omega arith)
among-at (k ∷ ks) zero d h = rw (self k) refl
among-at (k ∷ ks) (suc i) d h = rw (among-at ks i d (omega arith)) (or_true (k == get_or ks i d))
  where
    or_true : (b : Bool) → (b || true) ≡ true
    or_true true = refl
    or_true false = refl

-- ---- flags are cleared

pub unmark-first : (flags : List Bool) (ks : List ℕ) → AreFlags flags ks → FlagsOnly flags (drop 0 ks)
unmark-first flags ks are k h = sym (are k) ∙ h

pub unmark-one : (flags : List Bool) (ks : List ℕ) (i d : ℕ) → i < length ks → FlagsOnly flags (drop i ks) →
    FlagsOnly (set flags (get_or ks i d) false) (drop (i + 1) ks)
unmark-one flags ks i d h only k is = cases (cases_eq k (get_or ks i d))
  where
    cleared : (bs : List Bool) (n : ℕ) → get_or (set bs n false) n false ≡ true → ⊥
    cleared [] n e = cc
    cleared (b ∷ bs) zero e = cc
    cleared (b ∷ bs) (suc n) e = cleared bs n e

    rest : (b : Bool) → (get_or ks i d == k) ≡ b → (b || is_among (drop (i + 1) ks) k) ≡ true → (k ≡ get_or ks i d → ⊥) → is_among (drop (i + 1) ks) k ≡ true
    rest true e m n = absurd (n (sym (eqb-true (get_or ks i d) k e)))
    rest false e m n = m

    cases : ((k ≡ get_or ks i d) ⊎ (k ≡ get_or ks i d → ⊥)) → is_among (drop (i + 1) ks) k ≡ true
    cases (inl e) = absurd (cleared flags k (let same : get_or (set flags (get_or ks i d) false) k false ≡ get_or (set flags k false) k false = rw e refl in sym same ∙ is))
    cases (inr n) =
        let before : get_or flags k false ≡ true = sym (get_or-set_other flags (get_or ks i d) k false false n) ∙ is in
        rest (get_or ks i d == k) refl (rw (drop_more ks i d h) at (only k before)) n

pub unmarked : (flags : List Bool) (ks : List ℕ) (i : ℕ) → length ks ≤ i → FlagsOnly flags (drop i ks) → AreFlags flags []
unmarked flags ks i h only k = cases (get_or flags k false) refl
  where
    cases : (b : Bool) → get_or flags k false ≡ b → get_or flags k false ≡ false
    cases false e = e
    cases true e = let none : false ≡ true = rw (drop_all i ks h) at (only k e) in cc

-- ---- the lowest that is due

find-from : (p : ℕ → Bool) (n m k : ℕ) → p k ≡ true → n ≤ k → k < n + m → ((j : ℕ) → j < k → p j ≡ false) → find p (range_with_len n m) ≡ Some k
find-from p n zero k is from below none = absurd (omega arith)
find-from p n (suc m) k is from below none =
    cases (cases_eq n k) (λ other. find-from p (n + 1) m k is (omega arith) (omega arith) none)
  where
    cases : ((n ≡ k) ⊎ (n ≡ k → ⊥)) → ((n ≡ k → ⊥) → find p (range_with_len (n + 1) m) ≡ Some k) → find p (range_with_len n (suc m)) ≡ Some k
    cases (inl e) rest = rw (e, is) refl
    cases (inr other) rest = rw (none n (omega arith)) (rest other)

find-none : (p : ℕ → Bool) (n m : ℕ) → ((j : ℕ) → p j ≡ false) → find p (range_with_len n m) ≡ None
find-none p n zero none = refl
find-none p n (suc m) none = rw (none n) (find-none p (n + 1) m none)

lower : (k j : ℕ) → is_gt (nat_cmp k j) ≡ false → j < k → ⊥
lower k j h less = grind (arith, nat_tests)

received : (a b : Bool) → (a && b) ≡ true → a ≡ true
received true b h = refl
received false b h = h

lowest : (flags : List Bool) (due : BTreeSet ℕ) (s : DueScriptsView) (k : ℕ) → IsTable flags due s → length flags ≡ s.count →
    contains nat_cmp due k ≡ true → IsLowerBound nat_cmp due k → lowest_due s ≡ Some k
unfolding lowest_due
lowest flags due s k t many member least =
    let is : is_due s k ≡ true = sym (t.held k) ∙ member in
    let flagged : get_or flags k false ≡ true = t.flagged k ∙ received (is_among s.received k) (not (is_among s.settled k)) is in
    find-from (is_due s) 0 s.count k is (omega arith) (omega (arith, flag-within flags k flagged, many)) (λ j less. below j less (is_due s j) refl)
  where
    below : (j : ℕ) → j < k → (b : Bool) → is_due s j ≡ b → is_due s j ≡ false
    below j less false e = e
    below j less true e = absurd (lower k j (least j (let there : contains nat_cmp due j ≡ true = t.held j ∙ e in there)) less)

none-due : (flags : List Bool) (due : BTreeSet ℕ) (s : DueScriptsView) → IsTable flags due s → length due.keys ≡ 0 → lowest_due s ≡ None
unfolding lowest_due
none-due flags due s t none = find-none (is_due s) 0 s.count (λ j. (sym (t.held j) ∙ empty due.keys none j))
  where
    empty : (keys : List ℕ) → length keys ≡ 0 → (j : ℕ) → list_any (is_at (nat_cmp j)) keys ≡ false
    empty [] e j = refl
    empty (k ∷ ks) e j = absurd (omega arith)

pub first_due : (flags : List Bool) (due : BTreeSet ℕ) (s : DueScriptsView) → IsTable flags due s → length flags ≡ s.count → (first : Option (Bor ℕ)) →
    (0 < btree_set_len due → IsSome first) → IfSome first (λ k. IsTrue (contains nat_cmp due k.now)) → IfSome first (λ k. IsLowerBound nat_cmp due k.now) →
    option_copied first ≡ lowest_due s
first_due flags due s t many (Some k) some member least = sym (lowest flags due s k.now t many member least)
first_due flags due s t many None some member least = sym (none-due flags due s t (none (length due.keys) refl))
  where
    none : (n : ℕ) → length due.keys ≡ n → length due.keys ≡ 0
    none zero e = e
    none (suc n) e = let there : false ≡ true = some (omega arith) in cc
