-- The viewer that a datagram to the host says it is of.
use Rattle.std.specs.Prelude.{◌≡◌, ℕ, ◌==◌, Bool, List, [], ◌∷◌, Option, None, Some, nat_eq, nat_lt, slice_get, if◌then◌else◌}
use Rattle.std.specs.Cmp.Lexicographic.{pointwise}
use Rattle.byte_codec.specs.Codec.{◌>>?◌, byte, fixed}
use Rattle.std.specs.Option.{option_map}
use Rattle.share_keys.specs.Seal.{IsSealed, front_of, unsealed_in}
use Rattle.share_keys.specs.Table.{key_at}
use Rattle.share_keys.specs.declared.sealing.Direction.TheVariants.{ToHost}
use Rattle.share_keys.specs.declared.sealing.Key.{Key}

-- how many bytes after the tag the viewer's number stands: an offer and an ask have the session
-- before it, a Hello the scene's mark; nothing else is sent to a host
abbrev pub place_of : (tag : ℕ) → Option ℕ
place_of tag =
    if tag == 2 then Some 16 else if tag == 3 then Some 16 else if tag == 7 then Some 32 else None

abbrev pub seat_of : ℕ → Option ℕ
seat_of who = if nat_lt who 64 then Some who else None

abbrev pub seat_at : List ℕ → (place : ℕ) → Option ℕ
seat_at bytes place = slice_get bytes place >>? seat_of

abbrev pub claimed_after : (tag : ℕ) → List ℕ → Option ℕ
claimed_after tag rest = place_of tag >>? seat_at rest

abbrev pub claimed_behind : List ℕ → Option ℕ
claimed_behind rest = byte.read rest >>? λ tag. claimed_after tag.0 tag.1

-- X3DS and version 2
abbrev pub is_head : List ℕ → Bool
is_head front = pointwise nat_eq front (88 ∷ 51 ∷ 68 ∷ 83 ∷ 2 ∷ [])

-- the viewer that a datagram to the host says it is of
abbrev pub claimed : List ℕ → Option ℕ
claimed datagram =
    (fixed 5).read datagram >>? λ front. if is_head front.0 then claimed_behind front.1 else None

-- these bytes are a datagram to the host that says it is of this viewer, and its seal by the key of
-- this viewer
pub record IsOpened (keys : List (Option Key)) (who : ℕ) (datagram bytes : List ℕ) : Type 0 where
  pub key : Key
  pub its : key_at keys who ≡ Some key
  pub says : claimed datagram ≡ Some who
  pub sealed : IsSealed key.bytes ToHost datagram bytes

abbrev pub opened_by : (who : ℕ) → List ℕ → Key → Option (ℕ × List ℕ)
opened_by who bytes key =
    option_map (λ datagram. (who, datagram)) (unsealed_in key.bytes ToHost bytes)

-- the viewer and the datagram of which these bytes are the sealed form, if there are such
abbrev pub opened_in : List (Option Key) → List ℕ → Option (ℕ × List ℕ)
opened_in keys bytes = claimed (front_of bytes) >>? λ who. key_at keys who >>? opened_by who bytes
