-- Which peers are answered in version 2 (our choice): those whose last datagram was of it. A peer
-- is its number; of one beyond the list nothing is noted.
use Rattle.std.specs.Prelude.{ℕ, Bool, false, List, slice_set, get_or}

abbrev pub noted : List Bool → (peer : ℕ) → Bool → List Bool
noted versions peer is_two = slice_set versions peer is_two

abbrev pub is_two : List Bool → (peer : ℕ) → Bool
is_two versions peer = get_or versions peer false
