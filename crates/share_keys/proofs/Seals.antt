-- A sealed datagram and its parts.
use Rattle.std.proofs.Common.{◌≡◌, ℕ, true, false, ◌+◌, ◌-◌, ◌<◌, List, ◌∷◌, ◌++◌, length, take, drop, ap, ◌∙◌, arith, length-append}
use Rattle.std.proofs.lemmas.List.{take_at, drop_at, length-take-le}
use Rattle.sha2.proofs.Facts256.{length-sha256}
use Rattle.sha2.specs.Sha256.{sha256}
use Rattle.share_keys.specs.Hmac.{masked, block_of}
use Rattle.share_keys.specs.declared.sealing.Direction.{Direction}
use Rattle.share_keys.specs.Seal.{seal_of, direction_byte, IsSealed}

pub seal-length : (key : List ℕ) (d : Direction) (datagram : List ℕ) → length (seal_of key d datagram) ≡ 16
seal-length key d datagram =
    let text = masked 92 (block_of key) ++ sha256 (masked 54 (block_of key) ++ (direction_byte d ∷ datagram)) in
    length-take-le 16 (sha256 text) (omega (arith, length-sha256 text))

module _ (key : List ℕ) (d : Direction) (datagram bytes : List ℕ) (sealed : IsSealed key d datagram bytes) where
  whole-length : length bytes ≡ length datagram + 16
  whole-length = ap length sealed ∙ length-append datagram (seal_of key d datagram) ∙ ap (λ n. length datagram + n) (seal-length key d datagram)

  pub not_short : length bytes < 16 → true ≡ false
  not_short lt = absurd (omega (arith, lt, whole-length))

  front-length : length datagram ≡ length bytes - 16
  front-length = omega (arith, whole-length)

  pub front : take (length bytes - 16) bytes ≡ datagram
  front = ap (λ xs. take (length bytes - 16) xs) sealed ∙ take_at datagram (seal_of key d datagram) (length bytes - 16) front-length

  pub last : drop (length bytes - 16) bytes ≡ seal_of key d datagram
  last = ap (λ xs. drop (length bytes - 16) xs) sealed ∙ drop_at datagram (seal_of key d datagram) (length bytes - 16) front-length
