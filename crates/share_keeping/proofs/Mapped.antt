-- A list that is mapped in place, item by item.
use Rattle.std.proofs.Common.{◌≡◌, ℕ, zero, suc, ◌+◌, ◌<◌, ◌≤◌, List, [], ◌∷◌, ◌++◌, ◌∙◌, map, refl, sym, ap, arith, take, drop, set, get_or, length, add-one, take_all}
use Rattle.std.proofs.Math.Seq.{take-suc-set}
use Rattle.std.proofs.lemmas.List.{take_more, get_or-drop, drop-set-lt, length-set, map-append}

-- the first i items are mapped, and the others are as before
pub record IsMapped {A : Type 0} (f : A → A) (old now : List A) (i : ℕ) : Type 0 where
  pub done : take i now ≡ map f (take i old)
  pub left : drop i now ≡ drop i old
  pub long : length now ≡ length old

pub mapped_none : {A : Type 0} (f : A → A) (xs : List A) → IsMapped f xs xs 0
mapped_none f xs = record { done = refl; left = refl; long = refl }

drop-one : {A : Type 0} (i : ℕ) (xs : List A) → drop 1 (drop i xs) ≡ drop (suc i) xs
drop-one zero xs = refl
drop-one (suc i) [] = refl
drop-one (suc i) (x ∷ xs) = drop-one i xs

pub mapped_more : {A : Type 0} (f : A → A) (old now : List A) (i : ℕ) (d new : A) → i < length now → new ≡ f (get_or now i d) → IsMapped f old now i → IsMapped f old (set now i new) (i + 1)
mapped_more f old now i d new h made m =
    let zero-on : i + 0 ≡ i = omega arith in
    let here : get_or now i d ≡ get_or old i d =
    ap (λ k. get_or now k d) (sym zero-on) ∙ (sym (get_or-drop i now 0 d) ∙ (ap (λ xs. get_or xs 0 d) m.left ∙ (get_or-drop i old 0 d ∙ ap (λ k. get_or old k d) zero-on))) in
    let in-old : i < length old = omega (arith, m.long) in
    let lt : i < i + 1 = omega arith in
    let step : take (i + 1) (set now i new) ≡ take i now ++ new ∷ [] = rw add-one (take-suc-set now i new h) in
    record {
      done =
          step ∙ (ap (λ xs. xs ++ new ∷ []) m.done ∙ (ap (λ y. map f (take i old) ++ y ∷ []) (made ∙ ap f here)
          ∙ (sym (map-append f (take i old) (get_or old i d ∷ [])) ∙ ap (map f) (sym (take_more old i d in-old)))));
      left = drop-set-lt (i + 1) now i new lt ∙ rw add-one (sym (drop-one i now) ∙ (ap (drop 1) m.left ∙ drop-one i old));
      long = length-set now i new ∙ m.long;
    }

pub mapped_all : {A : Type 0} (f : A → A) (old now : List A) (i : ℕ) → length now ≤ i → IsMapped f old now i → now ≡ map f old
mapped_all f old now i le m =
    let old-le : length old ≤ i = omega (arith, m.long) in
    sym (take_all i now le) ∙ (m.done ∙ ap (map f) (take_all i old old-le))
