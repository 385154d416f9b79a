-- What is found under a text without its ending.
use Rattle.std.proofs.Common.{◌≡◌, ◌-◌, ◌++◌, ◌∙◌, refl, sym, ap, ℕ, List, length, take, false, nat_eq, if◌then◌else◌, Option, None}
use Rattle.std.specs.List.{ends_with}
use Rattle.std.proofs.lemmas.Bool.Decides.{Decides-eqb}
use Rattle.std.proofs.lemmas.Slice.Eq.{ends_is}

-- where the text has the ending
pub stripped : {A : Type 0} (f : List ℕ → Option A) (ending text rest : List ℕ) (n : ℕ) →
    n ≡ length ending → text ≡ take (length text - n) text ++ ending → rest ≡ take (length text - n) text →
    f rest ≡ (if ends_with nat_eq text ending then f (take (length text - length ending) text) else None)
stripped f ending text rest n whole ends is =
    ap f (is ∙ ap (λ k. take (length text - k) text) whole)
    ∙ ap (λ b. if b then f (take (length text - length ending) text) else None)
    (sym ((ends_is Decides-eqb text ending (ends_with nat_eq text ending) refl).1 _ ends))

-- and where it hasn't
pub unended : {A : Type 0} (found : Option A) (ending text : List ℕ) → false ≡ ends_with nat_eq text ending →
    None ≡ (if ends_with nat_eq text ending then found else None)
unended found ending text lacks = ap (λ b. if b then found else None) lacks
