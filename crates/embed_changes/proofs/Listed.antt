-- What is listed of the items of a list, by one more item.
use Rattle.std.proofs.Common.{◌≡◌, ℕ, ◌+◌, ◌<◌, List, [], ◌∷◌, ◌++◌, length, get_or, take, ap, sym, ◌∙◌, append_assoc}
use Rattle.std.specs.List.{flat_map}
use Rattle.std.proofs.lemmas.List.{flat_map_more, take_more}

next : {A B : Type 0} (f : A → List B) (xs : List A) (i : ℕ) (x : A) → i < length xs → x ≡ get_or xs i x
    → flat_map f (take i xs) ++ f x ≡ flat_map f (take (i + 1) xs)
next f xs i x h is =
    flat_map_more f [] (take i xs) x ∙ ap (λ l. flat_map f l) (ap (λ y. take i xs ++ y ∷ []) is ∙ sym (take_more xs i x h))

pub listed_next : {A B : Type 0} (f : A → List B) (before : List B) (xs : List A) (i : ℕ) (x : A) (made more : List B) → i < length xs
    → x ≡ get_or xs i x → made ≡ before ++ flat_map f (take i xs) → more ≡ made ++ f x → more ≡ before ++ flat_map f (take (i + 1) xs)
listed_next f before xs i x made more h is so_far pushed =
    pushed ∙ ap (λ l. l ++ f x) so_far ∙ append_assoc before (flat_map f (take i xs)) (f x) ∙ ap (λ l. before ++ l) (next f xs i x h is)
