-- Buffers that grow by a text after the other.
use Rattle.std.proofs.Common.{◌≡◌, ℕ, ◌+◌, ◌*◌, List, [], ◌∷◌, ◌++◌, ◌<◌, ◌≤◌, length, take, get_or, replicate, ap, append_assoc, ◌∙◌, arith}
use denote.Param.Weighed.{most, at_most}
use Rattle.std.proofs.lemmas.List.{take_all, replicate_more}
use Rattle.classic_tree.specs.Writing.{Writes, lines_text}

-- by two texts
pub twice : (a b old first new : List ℕ) → first ≡ old ++ a → new ≡ first ++ b → new ≡ old ++ (a ++ b)
twice a b old first new one two = two ∙ ap (λ t. t ++ b) one ∙ append_assoc old a b

-- by three texts
pub thrice : (a b c old first second new : List ℕ) →
    first ≡ old ++ a → second ≡ first ++ b → new ≡ second ++ c → new ≡ old ++ (a ++ b ++ c)
thrice a b c old first second new one two three =
    three ∙ ap (λ t. t ++ c) (two ∙ ap (λ t. t ++ b) one ∙ append_assoc old a b)
    ∙ append_assoc old (a ++ b) c

-- by all parts, each on a line of its own
pub all_lines : {A : Type 0} (text : A → Writes) (indent : ℕ) (parts : List A) (n : ℕ) (old new : List ℕ) →
    new ≡ old ++ lines_text text indent (take n parts) → length parts ≤ n → new ≡ old ++ lines_text text indent parts
all_lines text indent parts n old new grown all =
    grown ∙ ap (λ ys. old ++ lines_text text indent ys) (take_all n parts all)

-- by n spaces and one
pub one_space : (n : ℕ) (old mid new : List ℕ) →
    mid ≡ old ++ replicate n 32 → new ≡ mid ++ 32 ∷ [] → new ≡ old ++ replicate (n + 1) 32
one_space n old mid new before last =
    last ∙ ap (λ t. t ++ 32 ∷ []) before ∙ append_assoc old (replicate n 32) (32 ∷ [])
    ∙ ap (λ t. old ++ t) (replicate_more n 32)

-- a part of a list is written after the list: its depth is no more, and its function's rank is lower
pub falls_within : {A : Type 0} (depth : A → ℕ) (parts : List A) (n : ℕ) (part : A) (most_steps : ℕ) →
    n < length parts → part ≡ get_or parts n part → 16 * most depth parts + 2 ≡ most_steps → 16 * depth part + 0 < most_steps
falls_within depth parts n part most_steps here is all =
    let inside : depth (get_or parts n part) ≤ most depth parts = at_most depth parts n part here in
    let same : depth part ≡ depth (get_or parts n part) = ap depth is in
    omega arith
