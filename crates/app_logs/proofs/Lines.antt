-- Lists that loops fill.
use Rattle.std.proofs.Common.{◌≡◌, ◌<◌, ◌+◌, ◌++◌, ◌∙◌, ℕ, Bool, List, [], ◌∷◌, length, map, take, get_or, ap, sym}
use Rattle.std.specs.Prelude.{cond}
use Rattle.std.specs.List.{filter, flat_map}
use Rattle.std.proofs.lemmas.List.{map-append, take_more}
use Rattle.std.proofs.lemmas.List.Elements.{filter-append}
use Rattle.share_entries.proofs.Loops.{one_more}

pub line_more : {A : Type 0} (f : A → List ℕ) (xs : List A) (i : ℕ) (x : A) (old now new : List ℕ) → i < length xs
    → x ≡ get_or xs i x → now ≡ old ++ flat_map f (take i xs) → new ≡ now ++ f x → new ≡ old ++ flat_map f (take (i + 1) xs)
line_more f xs i x old now new lt is so_far here =
    one_more f xs i x old now new lt so_far (here ∙ ap (λ y. now ++ f y) is)

-- one item more of a list that is mapped and filtered
pub passed_more : {A B : Type 0} (p : B → Bool) (f : A → B) (xs : List A) (i : ℕ) (x : A) (now new : List B) → i < length xs
    → x ≡ get_or xs i x → now ≡ filter p (map f (take i xs)) → new ≡ now ++ cond (p (f x)) (f x ∷ []) []
    → new ≡ filter p (map f (take (i + 1) xs))
passed_more p f xs i x now new lt is so_far here =
    here ∙ ap (λ ys. ys ++ cond (p (f x)) (f x ∷ []) []) so_far
    ∙ sym (filter-append p (map f (take i xs)) (f x ∷ []))
    ∙ ap (filter p) (sym (ap (map f) (take_more xs i x lt ∙ ap (λ y. take i xs ++ y ∷ []) (sym is)) ∙ map-append f (take i xs) (x ∷ [])))
