-- What is made of the numbers below one more.
use Rattle.std.proofs.Common.{◌≡◌, ℕ, ◌+◌, ◌<◌, cond, List, [], ◌∷◌, ◌++◌, ◌==◌, length, get_or, map, take, refl, ap, sym, ◌∙◌, append_assoc, append-nil, arith}
use Rattle.std.specs.List.{flat_map, range_with_len}
use Rattle.std.proofs.lemmas.Grind.{common_steps}
use Rattle.std.proofs.lemmas.List.{flat_map_more, map-append, take_more}
use Rattle.std.proofs.lemmas.List.Concat.{flat_map-append}
use Rattle.std.proofs.lemmas.List.FromFn.{map-range_with_len_more}
use Rattle.std.proofs.lemmas.List.Sums.{fold_more}
use Rattle.scene_text.specs.Places.{times}

same : (xs : List ℕ) → xs ≡ map (λ k. k) xs
same [] = refl
same (x ∷ xs) = ap (λ ys. x ∷ ys) (same xs)

pub map_range_more : {A : Type 0} (f : ℕ → A) (n : ℕ) → map f (range_with_len 0 (n + 1)) ≡ map f (range_with_len 0 n) ++ f n ∷ []
map_range_more f n = map-range_with_len_more f 0 n n (omega arith)

range_more : (n : ℕ) → range_with_len 0 (n + 1) ≡ range_with_len 0 n ++ n ∷ []
range_more n = same (range_with_len 0 (n + 1)) ∙ map_range_more (λ (k : ℕ). k) n ∙ ap (λ xs. xs ++ n ∷ []) (sym (same (range_with_len 0 n)))

-- behind a list
pub flat_map_range_more : {A : Type 0} (before : List A) (f : ℕ → List A) (n : ℕ) → before ++ flat_map f (range_with_len 0 (n + 1)) ≡ (before ++ flat_map f (range_with_len 0 n)) ++ f n
flat_map_range_more before f n =
    ap (λ xs. before ++ flat_map f xs) (range_more n)
    ∙ ap (λ ys. before ++ ys) (flat_map-append f (range_with_len 0 n) (n ∷ []))
    ∙ ap (λ ys. before ++ (flat_map f (range_with_len 0 n) ++ ys)) (append-nil (f n))
    ∙ sym (append_assoc before (flat_map f (range_with_len 0 n)) (f n))

-- what is made of the items of a list, by one more item
pub flat_map_next : {A B : Type 0} (f : A → List B) (xs : List A) (i : ℕ) (x : A) (made more : List B) → i < length xs → x ≡ get_or xs i x → made ≡ flat_map f (take i xs)
    → more ≡ made ++ f x → more ≡ flat_map f (take (i + 1) xs)
flat_map_next f xs i x made more h is so_far pushed =
    pushed ∙ ap (λ l. l ++ f x) so_far ∙ flat_map_more f [] (take i xs) x
    ∙ ap (λ l. flat_map f l) (ap (λ y. take i xs ++ y ∷ []) is ∙ sym (take_more xs i x h))

-- the same of one item for each, behind a list
pub map_next : {A B : Type 0} (f : A → B) (before : List B) (xs : List A) (i : ℕ) (d : A) (made more : List B) → i < length xs → made ≡ before ++ map f (take i xs)
    → more ≡ made ++ f (get_or xs i d) ∷ [] → more ≡ before ++ map f (take (i + 1) xs)
map_next f before xs i d made more h so_far pushed =
    let x = get_or xs i d in
    pushed ∙ ap (λ l. l ++ f x ∷ []) so_far ∙ append_assoc before (map f (take i xs)) (f x ∷ [])
    ∙ ap (λ l. before ++ l) (sym (map-append f (take i xs) (x ∷ [])))
    ∙ ap (λ l. before ++ map f l) (sym (take_more xs i d h))

-- how often a number stands in a list, by one more item
pub times_more : (n : ℕ) (ns : List ℕ) (i : ℕ) → i < length ns → times n (take (i + 1) ns) ≡ times n (take i ns) + cond (get_or ns i 0 == n) 1 0
times_more n ns i h = fold_more (λ a m. a + cond (m == n) 1 0) 0 ns i 0 h

pub ruleset ranges = (common_steps, map_range_more)
