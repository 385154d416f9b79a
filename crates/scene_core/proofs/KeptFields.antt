-- What a node keeps of its fields, one number more.
use Rattle.std.proofs.Common.{◌≡◌, ℕ, ◌+◌, ◌<◌, ◌≤◌, min, List, [], ◌∷◌, ◌++◌, Option, None, inl, inr, length, get_or, drop, map, ap, sym, refl, ◌∙◌, arith, append_assoc}
use Rattle.std.specs.Prelude.{slice_get}
use Rattle.std.specs.List.{zip}
use Rattle.std.specs.Option.{option_map_or}
use Rattle.std.proofs.Math.ListN.{drop_of_length-le}
use Rattle.std.proofs.lemmas.Bool.{cases_lt}
use Rattle.std.proofs.lemmas.List.{append-nil}
use Rattle.std.proofs.lemmas.Option.{slice_get-get_or}
use Rattle.x3d_values.specs.declared.value.Value.{Value}
use Rattle.x3d_values.specs.Tables.{FieldRowView}
use Rattle.scene_core.specs.Scene.{kept}
use Rattle.scene_core.proofs.RowLemmas.{drop-step}

-- what is kept of two lists in step
abbrev pub all_kept : List FieldRowView → List (Option Value) → List (Option Value)
all_kept es vs = map (λ p. kept p.0 p.1) (zip es vs)

abbrev pub kept_by : Option FieldRowView → Option Value → Option Value
kept_by row v = option_map_or (λ e. kept e v) row None

-- ---- lists

pub zip-step : {A B C : Type 0} (f : A × B → C) (xs : List A) (ys : List B) (i : ℕ) (x : A) (y : B) → i < length xs → i < length ys
    → map f (zip (drop i xs) (drop i ys)) ≡ f (get_or xs i x, get_or ys i y) ∷ map f (zip (drop (i + 1) xs) (drop (i + 1) ys))
zip-step f xs ys i x y h k =
    ap (λ l. map f (zip l (drop i ys))) (drop-step xs i x h) ∙ ap (λ l. map f (zip (get_or xs i x ∷ drop (i + 1) xs) l)) (drop-step ys i y k)

zip-none : {A B : Type 0} (xs : List A) → zip {X = B} xs [] ≡ []
zip-none [] = refl
zip-none (x ∷ xs) = refl

zip-past : {A B C : Type 0} (f : A × B → C) (xs : List A) (ys : List B) (i : ℕ) → min (length xs) (length ys) ≤ i → map f (zip (drop i xs) (drop i ys)) ≡ []
zip-past f xs ys i h = elim (cases_lt i (length xs)) [
  | inl few ↦ ap (λ l. map f (zip (drop i xs) l)) (drop_of_length-le ys (omega (arith, h, few))) ∙ ap (λ l. map f l) (zip-none (drop i xs))
  | inr past ↦ ap (λ l. map f (zip l (drop i ys))) (drop_of_length-le xs past)
]

-- ---- one number more

kept-here : (es : List FieldRowView) (vs : List (Option Value)) (n : ℕ) (e : FieldRowView) (w : Option Value) → n < length es → n < length vs
    → all_kept (drop n es) (drop n vs) ≡ kept_by (slice_get es n) (get_or vs n w) ∷ all_kept (drop (n + 1) es) (drop (n + 1) vs)
kept-here es vs n e w h k =
    zip-step (λ p. kept p.0 p.1) es vs n e w h k
    ∙ ap (λ o. kept_by o (get_or vs n w) ∷ all_kept (drop (n + 1) es) (drop (n + 1) vs)) (sym (slice_get-get_or es n e h))

kept-step : (es : List FieldRowView) (vs : List (Option Value)) (n : ℕ) (w : Option Value) → n < length es → n < length vs
    → all_kept (drop n es) (drop n vs) ≡ kept_by (slice_get es n) (get_or vs n w) ∷ all_kept (drop (n + 1) es) (drop (n + 1) vs)
kept-step [] vs n w h k = absurd (omega (arith, h))
kept-step (e ∷ es) vs n w h k = kept-here (e ∷ es) vs n e w h k

-- where the row and the value are read from equal lists
pub kept-more : (es rows : List FieldRowView) (vs values made : List (Option Value)) (n m : ℕ) (row : Option FieldRowView) (v w copy : Option Value) (all : List (Option Value))
    → n < length es → n < length vs → copy ≡ kept_by row v → rows ≡ es → row ≡ slice_get rows m → m ≡ n → values ≡ vs → v ≡ get_or values n w
    → made ++ all_kept (drop n es) (drop n vs) ≡ all → (made ++ copy ∷ []) ++ all_kept (drop (n + 1) es) (drop (n + 1) vs) ≡ all
kept-more es rows vs values made n m row v w copy all h k is same_rows at same same_values held so_far =
    let read : row ≡ slice_get es n = at ∙ ap (λ l. slice_get l m) same_rows ∙ ap (λ i. slice_get es i) same in
    let value : v ≡ get_or vs n w = held ∙ ap (λ l. get_or l n w) same_values in
    let here : copy ≡ kept_by (slice_get es n) (get_or vs n w) = is ∙ ap (λ o. kept_by o v) read ∙ ap (λ u. kept_by (slice_get es n) u) value in
    append_assoc made (copy ∷ []) (all_kept (drop (n + 1) es) (drop (n + 1) vs))
    ∙ ap (λ c. made ++ (c ∷ all_kept (drop (n + 1) es) (drop (n + 1) vs))) here
    ∙ ap (λ l. made ++ l) (sym (kept-step es vs n w h k)) ∙ so_far

pub kept-done : (es : List FieldRowView) (vs made : List (Option Value)) (n end : ℕ) (all : List (Option Value)) → end ≤ n → end ≡ min (length es) (length vs)
    → made ++ all_kept (drop n es) (drop n vs) ≡ all → made ≡ all
kept-done es vs made n end all h is so_far =
    sym (append-nil made) ∙ ap (λ l. made ++ l) (sym (zip-past (λ p. kept p.0 p.1) es vs n (omega (arith, h, is)))) ∙ so_far
