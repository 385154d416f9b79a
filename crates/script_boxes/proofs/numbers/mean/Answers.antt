use Rattle.std.proofs.Common.{arith}
use Rattle.std.proofs.lemmas.Int.{ints, to_z-of_z}
use Rattle.std.proofs.lemmas.List.Sums.{fold_more}
use Rattle.script_boxes.proofs.ReadingLemmas.{reading_small}
use Rattle.script_boxes.proofs.numbers.mean.Goals as goal

pub loop-reading-preserved : goal.loop-reading-preserved
loop-reading-preserved c =
    let small = reading_small c.args.readings.now c.loop-reading.reading-index c.requires.fit in
    record {
      sum = grind (arith, ints, to_z-of_z, fold_more);
      above = omega (arith, ints);
      below = omega (arith, ints);
    }
