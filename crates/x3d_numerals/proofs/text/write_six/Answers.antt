use Rattle.std.proofs.Common.{arith, ◌∙◌}
use Rattle.std.proofs.lemmas.List.{drop-set}
use Rattle.x3d_numerals.proofs.Buffers.{six_written}
use Rattle.x3d_numerals.proofs.text.write_six.Goals as goal

pub returns : goal.returns
returns c =
    drop-set c.write_pair-3.new.buffer 24 46 (omega (arith, c.write_pair-3.array_long))
    ∙ six_written c.args.number c.args.buffer.now c.write_pair.new.buffer c.write_pair-2.new.buffer c.write_pair-3.new.buffer c.write_pair.ensures c.write_pair-2.ensures c.write_pair-3.ensures
