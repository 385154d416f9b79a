use Rattle.std.proofs.Common.{◌≡◌, ◌∙◌, true, false, Some, sym, ap, arith}
use Rattle.share_keys.specs.Seal.{seal_of}
use Rattle.share_keys.proofs.Seals.{not_short, front, last}
use Rattle.share_keys.proofs.sealing.unsealed.Goals as goal

pub returns-then-bytes-lt-SEAL-clause-only : goal.returns-then-bytes-lt-SEAL-clause-only
returns-then-bytes-lt-SEAL-clause-only c datagram sealed =
    absurd (let bad : true ≡ false = not_short c.args.key.now.bytes c.args.direction datagram c.args.bytes.now sealed (omega (arith, c.if-bytes-lt-SEAL.true)) in cc)

pub returns-then-is_same-clause-only : goal.returns-then-is_same-clause-only
returns-then-is_same-clause-only c datagram sealed =
    ap Some (c.split_at.ensures.front ∙ front c.args.key.now.bytes c.args.direction datagram c.args.bytes.now sealed)

pub returns-else-is_same-clause-only : goal.returns-else-is_same-clause-only
returns-else-is_same-clause-only c datagram sealed =
    let found = c.split_at.ensures.front ∙ front c.args.key.now.bytes c.args.direction datagram c.args.bytes.now sealed in
    let given = c.copy_from_slice.ensures.after ∙ c.split_at.ensures.back ∙ last c.args.key.now.bytes c.args.direction datagram c.args.bytes.now sealed in
    let made = c.seal.ensures ∙ ap (λ xs. seal_of c.args.key.now.bytes c.args.direction xs) found in
    let same : c.is_same.result ≡ true = c.is_same.ensures.other (given ∙ sym made) in
    absurd (let bad : true ≡ false = sym same ∙ c.if-is_same.false in cc)
