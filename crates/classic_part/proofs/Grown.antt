-- Lists that grow by what stays of one part after the other.
use Rattle.std.proofs.Common.{◌≡◌, ℕ, ◌+◌, List, [], ◌∷◌, ◌++◌, ◌<◌, ◌≤◌, length, take, get_or, sym, ap, append-nil, append_assoc, ◌∙◌}
use Rattle.std.proofs.lemmas.List.{take_all, take_more}
use Rattle.std.proofs.lemmas.Grind.{flat_map-append}
use Rattle.std.specs.List.{flat_map}

-- a list that has grown by what the first n items give, and then by what the next gives
pub next : {A B : Type 0} (f : A → List B) (xs : List A) (d x : A) (n : ℕ) (old mid new : List B) →
    n < length xs → x ≡ get_or xs n d → mid ≡ old ++ flat_map f (take n xs) → new ≡ mid ++ f x →
    new ≡ old ++ flat_map f (take (n + 1) xs)
next f xs d x n old mid new here is before more =
    more ∙ ap (λ t. t ++ f x) before
    ∙ append_assoc old (flat_map f (take n xs)) (f x)
    ∙ ap (λ t. old ++ (flat_map f (take n xs) ++ t)) (sym (append-nil (f x)) ∙ ap (λ y. f y ++ []) is)
    ∙ ap (λ t. old ++ t) (sym (flat_map-append f (take n xs) (get_or xs n d ∷ [])))
    ∙ ap (λ ys. old ++ flat_map f ys) (sym (take_more xs n d here))

-- by what all of them give
pub all : {A B : Type 0} (f : A → List B) (xs : List A) (n : ℕ) (old new : List B) →
    new ≡ old ++ flat_map f (take n xs) → length xs ≤ n → new ≡ old ++ flat_map f xs
all f xs n old new grown whole = grown ∙ ap (λ ys. old ++ flat_map f ys) (take_all n xs whole)
