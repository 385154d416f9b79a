use Rattle.std.proofs.Common.{arith, ◌<◌, ◌≤◌, length}
use Rattle.std.proofs.lemmas.Grind.{common_steps}
use Rattle.classic_lenient.specs.Blanks.{spaced}
use Rattle.classic_lenient.proofs.Spaces.{mapped-more, left-more, all-mapped}
use Rattle.classic_lenient.proofs.blanks.space.Goals as goal

pub loop-byte-preserved : goal.loop-byte-preserved
loop-byte-preserved c =
    let inv = c.loop-byte.invariant in
    let lt : c.loop-byte.byte-index < length c.loop-byte.bytes = omega arith in
    record {
      done = mapped-more spaced c.args.bytes.now c.loop-byte.bytes c.loop-byte.byte-index 0 c.spaced.result lt inv.done inv.left inv.long c.spaced.ensures;
      left = left-more c.args.bytes.now c.loop-byte.bytes c.loop-byte.byte-index c.spaced.result inv.left;
      long = grind (arith, common_steps);
    }

pub returns : goal.returns
returns c =
    let le : length c.loop-byte.bytes ≤ c.loop-byte.byte-index = omega arith in
    all-mapped spaced c.args.bytes.now c.loop-byte.bytes c.loop-byte.byte-index le c.loop-byte.invariant.done c.loop-byte.invariant.long
