-- A datagram that is opened is at the front of what came.
use Rattle.std.proofs.Common.{◌≡◌, ◌≤◌, ◌-◌, ℕ, Bool, true, false, cond, List, length, take, Option, Some, None, min, sym, ap, ◌∙◌, arith, nat_lt, nat_eq, length-take, drop}
use Rattle.std.specs.Option.{option_map}
use Rattle.std.specs.Cmp.Lexicographic.{pointwise}
use Rattle.std.proofs.lemmas.List.{take-take}
use Rattle.std.proofs.lemmas.Option.{same_Some}
use Rattle.byte_codec.specs.Codec.{◌>>?◌}
use Rattle.share_keys.specs.Claims.{claimed, opened_by}
use Rattle.share_keys.specs.Seal.{front_of, seal_of, unsealed_in}
use Rattle.share_keys.specs.Table.{key_at}
use Rattle.share_keys.specs.declared.sealing.Direction.{Direction}
use Rattle.share_keys.specs.declared.sealing.Direction.TheVariants.{FromHost, ToHost}
use Rattle.share_keys.specs.declared.sealing.Key.{Key}
use Rattle.share_sealed.specs.Passing.{host_opens, viewer_opens}
use Rattle.share_sealed.specs.Told.{Opening}

-- what is opened are the bytes before the last 16
abbrev pub Fronts : Opening → Type 0
Fronts opens = (bytes datagram : List ℕ) → opens bytes ≡ Some datagram → datagram ≡ front_of bytes

unsealed_front : (key : List ℕ) (d : Direction) (bytes datagram : List ℕ) → unsealed_in key d bytes ≡ Some datagram → datagram ≡ front_of bytes
unsealed_front key d bytes datagram e = by (nat_lt (length bytes) 16) (pointwise nat_eq (drop (length bytes - 16) bytes) (seal_of key d (front_of bytes))) e
  where
    by : (b c : Bool) → cond b None (cond c (let o : Option (List ℕ) = Some (front_of bytes) in o) None) ≡ Some datagram → datagram ≡ front_of bytes
    by true c e = absurd cc
    by false false e = absurd cc
    by false true e = sym (same_Some (front_of bytes) datagram e)

pub viewer_fronts : (key : List ℕ) → Fronts (viewer_opens key)
viewer_fronts key bytes datagram e = unsealed_front key FromHost bytes datagram e

abbrev second : Option (ℕ × List ℕ) → Option (List ℕ)
second o = option_map (λ x. x.1) o

second_of : (who : ℕ) (o : Option (List ℕ)) (datagram : List ℕ) → second (option_map (λ d. (who, d)) o) ≡ Some datagram → o ≡ Some datagram
second_of who None datagram e = absurd cc
second_of who (Some d) datagram e = e

keyed_front : (who : ℕ) (bytes : List ℕ) (k : Option Key) (datagram : List ℕ) → second (k >>? opened_by who bytes) ≡ Some datagram → datagram ≡ front_of bytes
keyed_front who bytes None datagram e = absurd cc
keyed_front who bytes (Some key) datagram e = unsealed_front key.bytes ToHost bytes datagram (second_of who (unsealed_in key.bytes ToHost bytes) datagram e)

claimed_front : (keys : List (Option Key)) (bytes : List ℕ) (w : Option ℕ) (datagram : List ℕ) → second (w >>? λ who. key_at keys who >>? opened_by who bytes) ≡ Some datagram → datagram ≡ front_of bytes
claimed_front keys bytes None datagram e = absurd cc
claimed_front keys bytes (Some who) datagram e = keyed_front who bytes (key_at keys who) datagram e

pub host_fronts : (keys : List (Option Key)) → Fronts (host_opens keys)
host_fronts keys bytes datagram e = claimed_front keys bytes (claimed (front_of bytes)) datagram e

-- ---- at the front of an array into which it was received

module _ (opens : Opening) (fronts : Fronts opens) (into : List ℕ) (count : ℕ) (datagram : List ℕ) (opened : opens (take count into) ≡ Some datagram) where
  its_len : length datagram ≡ min (length (take count into) - 16) (length (take count into))
  its_len = ap length (fronts (take count into) datagram opened) ∙ length-take (length (take count into) - 16) (take count into)

  pub few : length datagram ≤ count
  few = omega (arith, its_len, length-take count into)

  pub in_front : take (length datagram) into ≡ datagram
  in_front =
      let long = length (take count into) in
      let len : length datagram ≡ long - 16 = omega (arith, its_len) in
      ap (λ n. take n into) len
      ∙ sym (take-take (long - 16) count into (omega (arith, length-take count into)))
      ∙ sym (fronts (take count into) datagram opened)
