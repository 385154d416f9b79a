-- Bytes that are changed in place, one after another.
use Rattle.std.proofs.Common.{◌≡◌, ℕ, suc, zero, ◌+◌, ◌<◌, ◌≤◌, List, [], ◌∷◌, ◌++◌, ◌∙◌, map, refl, sym, ap, arith, take, drop, set, get_or, length, add-one, take_all}
use Rattle.std.proofs.Math.Seq.{take-suc-set}
use Rattle.std.proofs.lemmas.List.{take_more, get_or-drop, drop-set-lt, map-append}

-- one byte more
pub mapped-more : (f : ℕ → ℕ) (old now : List ℕ) (i d new : ℕ) → i < length now
    → take i now ≡ map f (take i old) → drop i now ≡ drop i old → length now ≡ length old
    → new ≡ f (get_or now i d) → take (i + 1) (set now i new) ≡ map f (take (i + 1) old)
mapped-more f old now i d new h done left long made =
    let zero-on : i + 0 ≡ i = omega arith in
    let here : get_or now i d ≡ get_or old i d = ap (λ k. get_or now k d) (sym zero-on) ∙ (sym (get_or-drop i now 0 d) ∙ (ap (λ xs. get_or xs 0 d) left ∙ (get_or-drop i old 0 d ∙ ap (λ k. get_or old k d) zero-on))) in
    let in-old : i < length old = omega arith in
    let step : take (i + 1) (set now i new) ≡ take i now ++ new ∷ [] = rw add-one (take-suc-set now i new h) in
    step ∙ (ap (λ xs. xs ++ new ∷ []) done ∙ (ap (λ x. map f (take i old) ++ x ∷ []) (made ∙ ap f here)
    ∙ (sym (map-append f (take i old) (get_or old i d ∷ [])) ∙ ap (map f) (sym (take_more old i d in-old)))))

drop-one : (i : ℕ) (xs : List ℕ) → drop 1 (drop i xs) ≡ drop (suc i) xs
drop-one zero xs = refl
drop-one (suc i) [] = refl
drop-one (suc i) (x ∷ xs) = drop-one i xs

pub left-more : (old now : List ℕ) (i new : ℕ) → drop i now ≡ drop i old
    → drop (i + 1) (set now i new) ≡ drop (i + 1) old
left-more old now i new left =
    let lt : i < i + 1 = omega arith in
    drop-set-lt (i + 1) now i new lt ∙ rw add-one (sym (drop-one i now) ∙ (ap (drop 1) left ∙ drop-one i old))

pub all-mapped : (f : ℕ → ℕ) (old now : List ℕ) (i : ℕ) → length now ≤ i
    → take i now ≡ map f (take i old) → length now ≡ length old → now ≡ map f old
all-mapped f old now i le done long =
    let le-old : length old ≤ i = omega arith in
    sym (take_all i now le) ∙ (done ∙ ap (map f) (take_all i old le-old))
