-- A string ends where its closing quote is found.
use Rattle.std.proofs.Common.{◌≡◌, ℕ, suc, ◌≤◌, List, [], ◌∷◌, ◌++◌, length, take, Bool, true, false, Option, Some, None, refl, sym, subst, arith, inl, inr, ◌==◌}
use Rattle.std.specs.Option.{option_map}
use Rattle.std.proofs.lemmas.Bool.{cases_Bool, eqb-true, eqb-false, ne_eqb}
use Rattle.classic_bytes.specs.Strings.{closing}
use Rattle.classic_lex.specs.Tokens.{IsClosed, quote, plain, pair}

-- ---- from the place of the quote

record Before (o : Option ℕ) (n : ℕ) : Type 0 where
  count : ℕ
  found : o ≡ Some count
  next : n ≡ suc count

before : (o : Option ℕ) (n : ℕ) → option_map suc o ≡ Some n → Before o n
before None n h = cc
before (Some m) n h = record { count = m; found = refl; next = cc }

-- what the bytes up to the quote are, where a backslash stands before or not
abbrev Closes : Bool → List ℕ → Type 0
Closes false bs = IsClosed bs
Closes true bs = IsClosed (92 ∷ bs)

one : (b n : ℕ) (bs : List ℕ) → b ≡ 34 → Some 1 ≡ Some n → IsClosed (take n (b ∷ bs))
one b n bs e h =
    let is : n ≡ 1 = cc in
    rw (is, e) quote

-- a byte that doesn't close, before what it leaves behind
behind_byte : (b : ℕ) (bs : List ℕ) → (b ≡ 34 → ⊥) → Closes (b == 92) bs → IsClosed (b ∷ bs)
behind_byte b bs other closes = elim (cases_Bool (b == 92)) [
  | inl f ↦
      let is : b ≡ 92 = eqb-true b 92 f in
      let c : IsClosed (92 ∷ bs) = rw f at closes in
      subst (λ (x : ℕ). IsClosed (x ∷ bs)) (sym is) c
  | inr f ↦ (let c : IsClosed bs = rw f at closes in plain other (eqb-false b 92 f) c)
]

IsClosed-taken : (escaped : Bool) (bs : List ℕ) (n : ℕ) → closing escaped bs ≡ Some n → Closes escaped (take n bs)
unfolding closing
IsClosed-taken true [] n h = cc
IsClosed-taken false [] n h = cc
IsClosed-taken true (c ∷ cs) n h =
    let o = before (closing false cs) n h in
    rw o.next (pair (IsClosed-taken false cs o.count o.found))
IsClosed-taken false (b ∷ bs) n h = elim (cases_Bool (b == 34)) [
  | inl e ↦ one b n bs (eqb-true b 34 e) (rw e at h)
  | inr e ↦
      let o = before (closing (b == 92) bs) n (rw e at h) in
      rw o.next (behind_byte b (take o.count bs) (eqb-false b 34 e) (IsClosed-taken (b == 92) bs o.count o.found))
]

pub IsClosed-take : (bs : List ℕ) (n : ℕ) → closing false bs ≡ Some n → IsClosed (take n bs)
IsClosed-take bs n h = IsClosed-taken false bs n h

pub closing-within : (escaped : Bool) (bs : List ℕ) (n : ℕ) → closing escaped bs ≡ Some n → n ≤ length bs
unfolding closing
closing-within true [] n h = cc
closing-within false [] n h = cc
closing-within true (c ∷ cs) n h =
    let o = before (closing false cs) n h in
    let w = closing-within false cs o.count o.found in
    let e : n ≡ suc o.count = o.next in
    omega arith
closing-within false (b ∷ bs) n h = elim (cases_Bool (b == 34)) [
  | inl e ↦ (let k : Some 1 ≡ Some n = rw e at h in let is : n ≡ 1 = cc in omega arith)
  | inr e ↦
      let o = before (closing (b == 92) bs) n (rw e at h) in
      let w = closing-within (b == 92) bs o.count o.found in
      let e : n ≡ suc o.count = o.next in
      omega arith
]

-- ---- to the place of the quote

pub closing-IsClosed : {bs : List ℕ} → IsClosed bs → (rest : List ℕ) → closing false (bs ++ rest) ≡ Some (length bs)
unfolding closing
closing-IsClosed quote rest = refl
closing-IsClosed (plain {b} {bs} other further closed) rest = rw (ne_eqb b 34 other, ne_eqb b 92 further, closing-IsClosed closed rest) refl
closing-IsClosed (pair {c} {bs} closed) rest = rw (closing-IsClosed closed rest) refl
