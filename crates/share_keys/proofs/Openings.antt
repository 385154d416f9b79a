-- The sealed form of a datagram is opened.
use Rattle.std.proofs.Common.{◌≡◌, ◌-◌, ℕ, true, false, List, Option, Some, length, drop, sym, ap, refl, ◌∙◌, inl, inr, nat_lt, nat_eq}
use Rattle.std.specs.Cmp.Lexicographic.{pointwise, bytes_decides}
use Rattle.std.proofs.lemmas.Bool.{cases_Bool, ltb-true}
use Rattle.share_keys.specs.declared.sealing.Direction.{Direction}
use Rattle.share_keys.specs.declared.sealing.Direction.TheVariants.{ToHost}
use Rattle.share_keys.specs.declared.sealing.Key.{Key}
use Rattle.share_keys.specs.Claims.{IsOpened, claimed, opened_by, opened_in}
use Rattle.share_keys.specs.Seal.{IsSealed, front_of, seal_of, unsealed_in}
use Rattle.share_keys.specs.Table.{key_at}
use Rattle.share_keys.proofs.Seals.{not_short, front, last}

long : (key : List ℕ) (d : Direction) (datagram bytes : List ℕ) → IsSealed key d datagram bytes → nat_lt (length bytes) 16 ≡ false
long key d datagram bytes sealed = elim (cases_Bool (nat_lt (length bytes) 16)) [
  | inl short ↦ absurd (let bad : true ≡ false = not_short key d datagram bytes sealed (ltb-true (length bytes) 16 short) in cc)
  | inr passes ↦ passes
]

pub unsealed_only : (key : List ℕ) (d : Direction) (datagram bytes : List ℕ) → IsSealed key d datagram bytes → unsealed_in key d bytes ≡ Some datagram
unsealed_only key d datagram bytes sealed =
    let is : front_of bytes ≡ datagram = front key d datagram bytes sealed in
    let same : drop (length bytes - 16) bytes ≡ seal_of key d (front_of bytes) = last key d datagram bytes sealed ∙ ap (seal_of key d) (sym is) in
    let right : pointwise nat_eq (drop (length bytes - 16) bytes) (seal_of key d (front_of bytes)) ≡ true = (bytes_decides (drop (length bytes - 16) bytes) (seal_of key d (front_of bytes))).1 same in
    let size : nat_lt (length bytes) 16 ≡ false = long key d datagram bytes sealed in
    rw (size, right) (ap (λ (z : List ℕ). let o : Option (List ℕ) = Some z in o) is)

pub opened_only : (keys : List (Option Key)) (who : ℕ) (datagram bytes : List ℕ) → IsOpened keys who datagram bytes → opened_in keys bytes ≡ Some (who, datagram)
opened_only keys who datagram bytes o =
    let says : claimed (front_of bytes) ≡ Some who = ap claimed (front o.key.bytes ToHost datagram bytes o.sealed) ∙ o.says in
    let opens : unsealed_in o.key.bytes ToHost bytes ≡ Some datagram = unsealed_only o.key.bytes ToHost datagram bytes o.sealed in
    let its : key_at keys who ≡ Some o.key = o.its in
    let by : opened_by who bytes o.key ≡ Some (who, datagram) = rw opens refl in
    rw (says, its) by
