-- Buffers that grow at their ends.
use Rattle.std.proofs.Common.{◌≡◌, ℕ, suc, zero, ◌+◌, ◌<◌, List, [], ◌∷◌, ◌++◌, length, get_or, take, sym, ap, ◌∙◌, append_assoc, arith}
use Rattle.std.specs.List.{flat_map}
use Rattle.std.proofs.lemmas.List.{append-nil}
use Rattle.x3d_lists.specs.Extends.{Extends}

-- what was appended is what is behind the old list
pub grown : (old new more : List ℕ) → new ≡ old ++ more → Extends old new
grown old new more is = record { more = more; is = is }

-- a part was appended, and then perhaps more
pub onward : (old part now new : List ℕ) → now ≡ old ++ part → Extends now new → Extends old new
onward old part now new is on = record {
  more = part ++ on.more;
  is = on.is ∙ ap (λ (z : List ℕ). z ++ on.more) is ∙ append_assoc old part on.more;
}

-- a part was appended, and then another
pub joined : (old first now second new : List ℕ) → now ≡ old ++ first → new ≡ now ++ second → new ≡ old ++ (first ++ second)
joined old first now second new one two = two ∙ ap (λ (z : List ℕ). z ++ second) one ∙ append_assoc old first second

flat_map-next : {A : Type 0} (f : A → List ℕ) (xs : List A) (i : ℕ) (d : A) → i < length xs → flat_map f (take (suc i) xs) ≡ flat_map f (take i xs) ++ f (get_or xs i d)
flat_map-next f [] i d lt = absurd (omega (arith, lt))
flat_map-next f (x ∷ xs) zero d lt = append-nil (f x)
flat_map-next f (x ∷ xs) (suc i) d lt = ap (λ (z : List ℕ). f x ++ z) (flat_map-next f xs i d (omega (arith, lt))) ∙ sym (append_assoc (f x) (flat_map f (take i xs)) (f (get_or xs i d)))

-- of a loop over items: one item more
pub one_more : {A : Type 0} (f : A → List ℕ) (xs : List A) (i : ℕ) (x : A) (old now new : List ℕ) → i < length xs → x ≡ get_or xs i x → now ≡ old ++ flat_map f (take i xs) → new ≡ now ++ f x → new ≡ old ++ flat_map f (take (i + 1) xs)
one_more {A} f xs i x old now new lt here so_far more =
    let next : suc i ≡ i + 1 = omega arith in
    joined old (flat_map f (take i xs)) now (f x) new so_far more
    ∙ ap (λ (y : A). old ++ (flat_map f (take i xs) ++ f y)) here
    ∙ ap (λ (z : List ℕ). old ++ z) (sym (flat_map-next f xs i x lt))
    ∙ ap (λ (n : ℕ). old ++ flat_map f (take n xs)) next
