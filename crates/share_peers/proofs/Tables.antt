-- What holds of a table of addresses.
use Rattle.std.proofs.Common.{◌≡◌, ◌<◌, ◌≤◌, ◌+◌, ◌-◌, ◌%◌, ◌∙◌, ℕ, zero, suc, List, Option, Some, None, true, false, nat_lt, nat_eq, length, replicate}
use Rattle.std.proofs.Common.{◌⊎◌, slice_set, refl, sym, ap, subst, arith, inl, inr, ne_eqb}
use Rattle.std.proofs.lemmas.Bool.{cases_Bool, cases_eq, ltb-true, ltb-false}
use Rattle.std.proofs.lemmas.List.{get_or_past, get_or-set_same, get_or-set_other}
use Rattle.std.proofs.Math.Nat.{add-mod_right, mod-eq_of_lt}
use Rattle.std.specs.declared.net.socket_addr.SocketAddr.{SocketAddr}
use Rattle.share_peers.specs.Table.{AllKept, AreDistinct, IsAt, address_at, is_kept}

none_in : (n k : ℕ) → address_at (replicate n None) k ≡ None
none_in zero zero = refl
none_in zero (suc k) = refl
none_in (suc n) zero = refl
none_in (suc n) (suc k) = none_in n k

-- a table of no address has none
pub none_at : (n : ℕ) (items : List (Option SocketAddr)) → items ≡ replicate n None → (k : ℕ) → address_at items k ≡ None
none_at n items e k = ap (λ l. address_at l k) e ∙ none_in n k

pub none_distinct : (n : ℕ) (items : List (Option SocketAddr)) → items ≡ replicate n None → AreDistinct items
none_distinct n items e a b address first second =
    let bad : None ≡ Some address = sym (none_at n items e a) ∙ first in (cc)

-- ---- how far a walk has come

abbrev pub NotBelow : List (Option SocketAddr) → ℕ → SocketAddr → Type 0
NotBelow items n address = (k : ℕ) → k < n → ¬ IsAt items k address

-- all places have another address
pub nowhere : (items : List (Option SocketAddr)) (n : ℕ) (address : SocketAddr) → length items ≤ n → NotBelow items n address → (k : ℕ)
    → ¬ IsAt items k address
nowhere items n address all below k at =
    elim (cases_Bool (nat_lt k n)) [
      | inl less ↦ below k (ltb-true k n less) at
      | inr more ↦
          let beyond : n ≤ k = ltb-false k n more in
          let bad : None ≡ Some address = sym (get_or_past items k None (omega (arith, beyond, all))) ∙ at in (cc)
    ]

-- one more place has another address
pub not_at : (items : List (Option SocketAddr)) (n : ℕ) (address : SocketAddr) → NotBelow items n address → ¬ IsAt items n address
    → NotBelow items (n + 1) address
not_at items n address below here k small at =
    elim (cases_Bool (nat_lt k n)) [
      | inl less ↦ below k (ltb-true k n less) at
      | inr more ↦
          let same : k ≡ n = omega (arith, ltb-false k n more, small) in
          here (subst (λ i. IsAt items i address) same at)
    ]

abbrev pub KeptFrom : List ℕ → (count next n : ℕ) → Type 0
KeptFrom kept count next n = (k : ℕ) → k < n → is_kept kept ((next + k) % count) ≡ true

-- one more place is kept
pub kept_more : (kept : List ℕ) (count next n : ℕ) → KeptFrom kept count next n → is_kept kept ((next + n) % count) ≡ true → KeptFrom kept count next (n + 1)
kept_more kept count next n before here k small =
    elim (cases_Bool (nat_lt k n)) [
      | inl less ↦ before k (ltb-true k n less)
      | inr more ↦
          let same : n ≡ k = omega (arith, ltb-false k n more, small) in
          subst (λ i. is_kept kept ((next + i) % count) ≡ true) same here
    ]

-- how many places after `next` a place is, round the table
steps_to : (count next k : ℕ) → next < count → k < count → (steps : ℕ) × (steps < count) × ((next + steps) % count ≡ k)
steps_to count next k low small =
    elim (cases_Bool (nat_lt k next)) [
      | inl less ↦
          let before : k < next = ltb-true k next less in
          let same : next + (k + count - next) ≡ k + count = omega (arith, low, small) in
          (k + count - next, omega (arith, before, low), ap (λ i. i % count) same ∙ add-mod_right k count ∙ mod-eq_of_lt small)
      | inr more ↦
          let after : next ≤ k = ltb-false k next more in
          let same : next + (k - next) ≡ k = omega (arith, after) in
          (k - next, omega (arith, small), ap (λ i. i % count) same ∙ mod-eq_of_lt small)
    ]

-- all places are kept, once round the table
pub round : (kept : List ℕ) (count next n : ℕ) → next < count → count ≤ n → KeptFrom kept count next n → AllKept kept count
round kept count next n low all before k small =
    let there = steps_to count next k low small in
    subst (λ i. is_kept kept i ≡ true) there.2 (before there.0 (omega (arith, there.1, all)))

-- ---- what is no number

other : (count k : ℕ) → k < count → nat_eq count k ≡ false
other count k small = ne_eqb count k (omega (arith, small))

none_in_row : (n count k : ℕ) → k < count → is_kept (replicate n count) k ≡ false
none_in_row zero count k small = refl
none_in_row (suc n) count k small = rw (other count k small, none_in_row n count k small) refl

-- a row of something that is no number keeps none
pub none_kept : (n count : ℕ) (items : List ℕ) → items ≡ replicate n count → (k : ℕ) → k < count → is_kept items k ≡ false
none_kept n count items e k small = ap (λ l. is_kept l k) e ∙ none_in_row n count k small

-- ---- an address is added

-- where an address that is added is, or where another one was
set_at : (items : List (Option SocketAddr)) (n : ℕ) (address : SocketAddr) (k : ℕ) (other : SocketAddr) → n < length items
    → IsAt (slice_set items n (Some address)) k other → ((k ≡ n) × (other ≡ address)) ⊎ IsAt items k other
set_at items n address k other small at =
    elim (cases_eq k n) [
      | inl same ↦
          let here : Some address ≡ Some other = sym (get_or-set_same items n (Some address) None small)
          ∙ subst (λ i. address_at (slice_set items n (Some address)) i ≡ Some other) same at in
          inl (same, (let is : other ≡ address = (cc) in is))
      | inr other_place ↦ inr (sym (get_or-set_other items n k (Some address) None other_place) ∙ at)
    ]

pub set_distinct : (items : List (Option SocketAddr)) (n : ℕ) (address : SocketAddr) → n < length items → AreDistinct items
    → ((k : ℕ) → ¬ IsAt items k address) → AreDistinct (slice_set items n (Some address))
set_distinct items n address small distinct none k m other first second =
    elim (set_at items n address k other small first) [
      | inl here ↦ elim (set_at items n address m other small second) [
        | inl there ↦ here.0 ∙ sym there.0
        | inr there ↦ absurd (none m (there ∙ ap (λ a. Some a) here.1))
      ]
      | inr here ↦ elim (set_at items n address m other small second) [
        | inl there ↦ absurd (none k (here ∙ ap (λ a. Some a) there.1))
        | inr there ↦ distinct k m other here there
      ]
    ]
