-- Blocks: zeros after a key, and a mask over each byte.
use Rattle.std.proofs.Common.{◌≡◌, ℕ, ◌+◌, ◌-◌, ◌<◌, List, [], ◌∷◌, ◌++◌, ◌∙◌, map, refl, sym, ap, arith, take, drop, set, get_or, length, zero, suc, add-one}
use Rattle.std.proofs.Math.Seq.{take-suc-set}
use Rattle.std.proofs.Math.ListN.{replicate}
use Rattle.std.proofs.lemmas.List.{take_more, get_or-drop, drop-set-lt, map-append, drop-replicate}

pub zeros_after : (n : ℕ) → drop n (replicate {A = ℕ} 64 0) ≡ replicate (64 - n) 0
zeros_after n = drop-replicate {X = ℕ} n 64 0

-- one byte more is mapped in place
pub mapped_more : (f : ℕ → ℕ) (old now : List ℕ) (i : ℕ) → i < length now → take i now ≡ map f (take i old) → drop i now ≡ drop i old → length now ≡ length old → take (i + 1) (set now i (f (get_or now i 0))) ≡ map f (take (i + 1) old)
mapped_more f old now i h done left long =
    let new = f (get_or now i 0) in
    let zero-on : i + 0 ≡ i = omega arith in
    let here : get_or now i 0 ≡ get_or old i 0 = ap (λ k. get_or now k 0) (sym zero-on) ∙ (sym (get_or-drop i now 0 0) ∙ (ap (λ xs. get_or xs 0 0) left ∙ (get_or-drop i old 0 0 ∙ ap (λ k. get_or old k 0) zero-on))) in
    let in-old : i < length old = omega arith in
    let step : take (i + 1) (set now i new) ≡ take i now ++ new ∷ [] = rw add-one (take-suc-set now i new h) in
    step ∙ (ap (λ xs. xs ++ new ∷ []) done ∙ (ap (λ x. map f (take i old) ++ x ∷ []) (ap f here)
    ∙ (sym (map-append f (take i old) (get_or old i 0 ∷ [])) ∙ ap (map f) (sym (take_more old i 0 in-old)))))

drop-one : (i : ℕ) (xs : List ℕ) → drop 1 (drop i xs) ≡ drop (suc i) xs
drop-one zero xs = refl
drop-one (suc i) [] = refl
drop-one (suc i) (x ∷ xs) = drop-one i xs

pub left_more : (old now : List ℕ) (i : ℕ) (new : ℕ) → drop i now ≡ drop i old → drop (i + 1) (set now i new) ≡ drop (i + 1) old
left_more old now i new left =
    let lt : i < i + 1 = omega arith in
    drop-set-lt (i + 1) now i new lt ∙ rw add-one (sym (drop-one i now) ∙ (ap (drop 1) left ∙ drop-one i old))
