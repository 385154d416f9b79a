-- What is received is the oldest that arrived.
use Rattle.std.proofs.Common.{◌≡◌, ◌∙◌, ap, ℕ, List, ◌++◌, ◌∷◌, length, take, Option, Some}
use Rattle.std.specs.Prelude.{option_to_list}
use Rattle.share_worlds.specs.declared.queue.Parcel.{Parcel}

pub oldest : (found : Option Parcel) (p : Parcel) (old new : List Parcel) → found ≡ Some p → old ≡ option_to_list found ++ new → old ≡ p ∷ new
oldest found p old new is taken = taken ∙ ap (λ (o : Option Parcel). option_to_list o ++ new) is

pub front_of : (count : ℕ) (into text bytes : List ℕ) → count ≡ length text → take (length text) into ≡ text → text ≡ bytes → take count into ≡ bytes
front_of count into text bytes counted front same = ap (λ (n : ℕ). take n into) counted ∙ front ∙ same
