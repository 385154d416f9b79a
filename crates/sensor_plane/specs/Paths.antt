-- The path to a list, as it is kept (our choice).
use Rattle.std.specs.Prelude.{ℕ, ◌-◌, ◌^◌, nat_le, nat_lt, Bool, ◌&&◌, List, ◌++◌, length, replicate, Option, Some, None, if◌then◌else◌}
use Rattle.std.specs.List.{list_all}

-- at most 64 positions, each in 32 bits
abbrev pub path_fits : List ℕ → Bool
path_fits ps = nat_le (length ps) 64 && list_all (λ p. nat_lt p (2 ^ 32)) ps

-- the path with these positions, if it fits
abbrev pub list_path : List ℕ → Option (List ℕ)
list_path ps = if path_fits ps then Some ps else None

-- the positions followed by zeros, 64 in all
abbrev pub padded : List ℕ → List ℕ
padded positions = positions ++ replicate (64 - length positions) 0
