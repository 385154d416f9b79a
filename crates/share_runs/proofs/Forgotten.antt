-- Chains of a log that stay are still of that log.
use Rattle.std.proofs.Common.{arith, ◌≡◌, ◌≤◌, ◌+◌, ◌-◌, ℕ, zero, suc, Bool, true, false, List, [], ◌∷◌, drop, Some, None, refl, sym, ap, ◌∙◌, leb-true, le-leb, if◌then◌else◌}
use Rattle.std.specs.Prelude.{nat_le, slice_get}
use Rattle.share_runs.specs.Forgetting.{StaysOfLog}
use Rattle.share_runs.specs.Known.{chain_in}

get-drop : {X : Type 0} (k : ℕ) (xs : List X) (i : ℕ) → slice_get (drop k xs) i ≡ slice_get xs (k + i)
get-drop zero xs i = ap (slice_get xs) (sym (omega arith))
get-drop (suc k) [] i = refl
get-drop (suc k) (x ∷ xs) i =
    let next : suc k + i ≡ suc (k + i) = omega arith in
    get-drop k xs i ∙ sym (ap (slice_get (x ∷ xs)) next)

-- a chain that stays was known at the same number
was-known : (from gone : ℕ) (chains : List (List ℕ)) (n : ℕ) (c : List ℕ) (b : Bool) → nat_le (from + gone) n ≡ b →
    (if b then slice_get (drop gone chains) (n - (from + gone)) else None) ≡ Some c → chain_in from chains n ≡ Some c
was-known from gone chains n c false h e = cc
was-known from gone chains n c true h e =
    let low : from + gone ≤ n = leb-true (from + gone) n h in
    let inside : nat_le from n ≡ true = le-leb from n (omega (arith, low)) in
    let place : gone + (n - (from + gone)) ≡ n - from = omega (arith, low) in
    ap (λ (b : Bool). if b then slice_get chains (n - from) else None) inside
    ∙ sym (ap (slice_get chains) place) ∙ sym (get-drop gone chains (n - (from + gone))) ∙ e

pub stays_of_log : StaysOfLog
stays_of_log run log old new f all n c e =
    let here : chain_in (old.from + f.gone) (drop f.gone old.chains.items) n ≡ Some c =
    sym (ap (λ (k : ℕ). chain_in k (drop f.gone old.chains.items) n) f.from) ∙ sym (ap (λ (cs : List (List ℕ)). chain_in new.from cs n) f.chains) ∙ e in
    all n c (was-known old.from f.gone old.chains.items n c (nat_le (old.from + f.gone) n) refl here)
