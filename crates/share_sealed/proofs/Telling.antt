-- What a port of sealed datagrams records, when more passed below.
use Rattle.std.proofs.Common.{◌≡◌, ℕ, Bool, true, false, cond, eqb, List, [], ◌∷◌, ◌++◌, Option, Some, None, refl, sym, ap, ◌∙◌, append_assoc}
use Rattle.std.proofs.lemmas.Bool.{eq-eqb, eqb-true}
use Rattle.share_turns.specs.Told.{Grows}
use Rattle.share_turns.specs.declared.traffic.Traffic.{Traffic}
use Rattle.share_sealed.specs.Told.{Opening, all_after, all_of, row_after, row_of, told_from, told_in, told_one}

pub row_append : (opens : Opening) (row : ℕ) (xs ys : List Traffic) → row_of opens row (xs ++ ys) ≡ row_of opens (row_of opens row xs) ys
row_append opens row [] ys = refl
row_append opens row (t ∷ ts) ys = row_append opens (row_after opens row t) ts ys

pub all_append : (opens : Opening) (all : ℕ) (xs ys : List Traffic) → all_of opens all (xs ++ ys) ≡ all_of opens (all_of opens all xs) ys
all_append opens all [] ys = refl
all_append opens all (t ∷ ts) ys = all_append opens (all_after opens all t) ts ys

pub told_append : (opens : Opening) (row : ℕ) (xs ys : List Traffic) → told_from opens row (xs ++ ys) ≡ told_from opens row xs ++ told_from opens (row_of opens row xs) ys
told_append opens row [] ys = refl
told_append opens row (t ∷ ts) ys =
    ap (λ (l : List Traffic). told_one opens row t ++ l) (told_append opens (row_after opens row t) ts ys)
    ∙ sym (append_assoc (told_one opens row t) (told_from opens (row_after opens row t) ts) (told_from opens (row_of opens (row_after opens row t) ts) ys))

pub grows_then : (a b c : Option (List Traffic)) (xs ys : List Traffic) → Grows a b xs → Grows b c ys → Grows a c (xs ++ ys)
grows_then None b c xs ys h k = tt
grows_then (Some os) None c xs ys h k = absurd h
grows_then (Some os) (Some bs) None xs ys h k = absurd k
grows_then (Some os) (Some bs) (Some cs) xs ys h k = k ∙ ap (λ (zs : List Traffic). zs ++ ys) h ∙ append_assoc os xs ys

-- ---- the record grows by what is handed on

module _ (opens : Opening) (n m : ℕ) (os ns xs : List Traffic) (grown : ns ≡ os ++ xs) (row : m ≡ row_of opens n xs) where
  abbrev kept : Bool → List Traffic → Option (List Traffic)
  kept b ts = cond b (let o : Option (List Traffic) = Some (told_from opens 0 ts) in o) None

  same_row : eqb (row_of opens 0 os) n ≡ true → eqb (row_of opens 0 ns) m ≡ true
  same_row h =
      let at : row_of opens 0 os ≡ n = eqb-true (row_of opens 0 os) n h in
      let all : row_of opens 0 ns ≡ m = ap (row_of opens 0) grown ∙ row_append opens 0 os xs ∙ ap (λ (k : ℕ). row_of opens k xs) at ∙ sym row in
      eq-eqb (row_of opens 0 ns) m all

  by : (b c : Bool) → eqb (row_of opens 0 os) n ≡ b → eqb (row_of opens 0 ns) m ≡ c → Grows (kept b os) (kept c ns) (told_from opens n xs)
  by false c h k = tt
  by true false h k = absurd (let bad : true ≡ false = sym (same_row h) ∙ k in cc)
  by true true h k =
      let at : row_of opens 0 os ≡ n = eqb-true (row_of opens 0 os) n h in
      ap (told_from opens 0) grown ∙ told_append opens 0 os xs ∙ ap (λ (z : ℕ). told_from opens 0 os ++ told_from opens z xs) at

  pub both : Grows (told_in opens n (Some os)) (told_in opens m (Some ns)) (told_from opens n xs)
  both = by (eqb (row_of opens 0 os) n) (eqb (row_of opens 0 ns) m) refl refl

pub grows_sealed : (opens : Opening) (n m : ℕ) (a b : Option (List Traffic)) (xs : List Traffic) → m ≡ row_of opens n xs → Grows a b xs
    → Grows (told_in opens n a) (told_in opens m b) (told_from opens n xs)
grows_sealed opens n m None b xs row g = tt
grows_sealed opens n m (Some os) None xs row g = absurd g
grows_sealed opens n m (Some os) (Some ns) xs row g = both opens n m os ns xs g row
