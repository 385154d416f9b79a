use Rattle.std.proofs.Common.{arith, ◌<◌, length}
use Rattle.std.specs.Int.Bits.{bit_xor}
use Rattle.std.proofs.lemmas.Grind.{common_steps}
use Rattle.share_keys.proofs.Blocks.{mapped_more, left_more}
use Rattle.share_keys.proofs.mac.mask_all.Goals as goal

pub loop-byte-preserved : goal.loop-byte-preserved
loop-byte-preserved c =
    let inv = c.loop-byte.invariant in
    let lt : c.loop-byte.byte-index < length c.loop-byte.bytes = omega arith in
    record {
      done = mapped_more (λ byte. bit_xor byte c.args.mask) c.args.bytes.now c.loop-byte.bytes c.loop-byte.byte-index lt inv.done inv.left inv.long;
      left = left_more c.args.bytes.now c.loop-byte.bytes c.loop-byte.byte-index _ inv.left;
      long = grind (arith, common_steps);
    }
