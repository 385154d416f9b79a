-- Which viewer each peer was last heard to be (our choice). A peer is a number.
use Rattle.std.specs.Prelude.{ℕ, List, Option, None, Some, get_or, slice_set}
use Rattle.byte_codec.specs.Codec.{◌>>?◌}
use Rattle.share_keys.specs.Table.{key_at}
use Rattle.share_keys.specs.declared.sealing.Key.{Key}

-- a peer for whose number the list has no place is never heard to be a viewer
abbrev pub noted : List (Option ℕ) → (peer who : ℕ) → List (Option ℕ)
noted speakers peer who = slice_set speakers peer (Some who)

abbrev pub who_at : List (Option ℕ) → (peer : ℕ) → Option ℕ
who_at speakers peer = get_or speakers peer None

-- the key by which datagrams to a peer are sealed
abbrev pub key_to : List (Option Key) → List (Option ℕ) → (peer : ℕ) → Option Key
key_to keys speakers peer = who_at speakers peer >>? key_at keys
