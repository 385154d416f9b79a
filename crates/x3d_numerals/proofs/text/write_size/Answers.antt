use Rattle.std.proofs.Common.{◌/◌, arith}
use Rattle.std.proofs.lemmas.Fmt.{length-decimal-le}
use Rattle.x3d_numerals.proofs.Buffers.{sized}
use Rattle.x3d_numerals.proofs.text.write_size.Goals as goal

pub write_digits-start-requires : goal.write_digits-start-requires
write_digits-start-requires c = (omega (arith, length-decimal-le 20 (c.args.size / 1000000) (omega arith) (omega arith) (omega arith)), omega (arith, c.write_fraction-end.array_long))

pub returns-clause-text : goal.returns-clause-text
returns-clause-text c =
    sized c.write_digits-start.new.buf c.write_fraction-end.new.buffer c.args.size c.write_digits-start.result c.write_fraction-end.result c.write_digits-start.ensures.written c.write_digits-start.ensures.start c.write_fraction-end.ensures.within.0 c.write_fraction-end.ensures.text

pub returns-clause-within : goal.returns-clause-within
returns-clause-within c =
    let short = length-decimal-le 20 (c.args.size / 1000000) (omega arith) (omega arith) (omega arith) in
    (omega (arith, short, c.write_digits-start.ensures.start), omega (arith, c.write_digits-start.ensures.start), c.write_fraction-end.ensures.within.0, c.write_fraction-end.ensures.within.1)
