-- Lists of numbers in a range.
use Rattle.std.proofs.Common.{◌≡◌, ℕ, Bool, ◌&&◌, List, [], ◌∷◌, refl, ap}
use Rattle.std.specs.Prelude.{ℤ}
use Rattle.std.specs.List.{list_all}
use Rattle.byte_codec.specs.Codec.{all_fit}
use Rattle.snapshot_codec.specs.Values.{is_within, within}

pub all_within : (limit : ℕ) (zs : List ℤ) → all_fit (within limit) zs ≡ list_all (is_within limit) zs
all_within limit [] = refl
all_within limit (z ∷ zs) = ap (λ (b : Bool). is_within limit z && b) (all_within limit zs)
