-- What a node gives to fields, one field more.
use Rattle.std.proofs.Common.{◌≡◌, ℕ, ◌+◌, ◌<◌, ◌==◌, cond, ◌≤◌, List, [], ◌∷◌, Option, Some, None, Bor, length, get_or, replicate, take, ap, sym, refl, ◌∙◌}
use Rattle.std.specs.Option.{option_copied, option_or}
use Rattle.std.proofs.lemmas.Grind.{common_steps}
use Rattle.std.proofs.lemmas.List.{get_or-replicate, length-replicate, take_all, take_more}
use Rattle.std.proofs.lemmas.List.Folds.{find-append}
use Rattle.proto_flat.specs.declared.flat.FlatField.{FlatField}
use Rattle.scene_core.specs.Parts.{given}

-- before the first field nothing is given
pub given-none : (fields : List FlatField) (number count : ℕ) (table : List (Option (Bor FlatField))) → table ≡ replicate count None
    → (length table ≡ count) × ((k : ℕ) → k < count → option_copied (get_or table k None) ≡ given (take 0 fields) (number + k))
given-none fields number count table e = (
  ap (λ ts. length ts) e ∙ length-replicate count None,
  λ k h. ap (λ ts. option_copied (get_or ts k None)) e ∙ ap option_copied (get_or-replicate count k None None h),
)

-- and behind the last what all give
pub given-last : (fields : List FlatField) (i number : ℕ) (held : Option FlatField) → length fields ≤ i → held ≡ given (take i fields) number → held ≡ given fields number
given-last fields i number held h e = e ∙ ap (λ fs. given fs number) (take_all i fields h)

given-more : (fields : List FlatField) (i number : ℕ) (f : FlatField) → i < length fields
    → given (take (i + 1) fields) number ≡ option_or (given (take i fields) number) (cond ((get_or fields i f).number == number) (Some (get_or fields i f)) None)
given-more fields i number f h =
    ap (λ fs. given fs number) (take_more fields i f h)
    ∙ find-append (λ (g : FlatField). g.number == number) (take i fields) (get_or fields i f ∷ [])

pub given-next : (fields : List FlatField) (i number : ℕ) (f : FlatField) (old new : Option FlatField) → i < length fields → new ≡ option_or old (cond (f.number == number) (Some f) None)
    → old ≡ given (take i fields) number → f ≡ get_or fields i f → new ≡ given (take (i + 1) fields) number
given-next fields i number f old new h put so_far is =
    put
    ∙ ap (λ o. option_or o (cond (f.number == number) (Some f) None)) so_far
    ∙ ap (λ (g : FlatField). option_or (given (take i fields) number) (cond (g.number == number) (Some g) None)) is
    ∙ sym (given-more fields i number f h)

pub or_none : {A : Type 0} (o : Option A) → option_or o None ≡ o
or_none None = refl
or_none (Some x) = refl

pub ruleset placing = (common_steps, or_none)
