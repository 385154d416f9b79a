use Rattle.std.proofs.Common.{take, drop}
use Rattle.x3d_numerals.proofs.Buffers.{behind_point, with_point}
use Rattle.x3d_numerals.proofs.text.write_fraction.Goals as goal

pub returns-clause-text : goal.returns-clause-text
returns-clause-text c =
    let b = c.write_six.new.buffer in
    with_point b (drop 31 c.args.buffer.now) (take 6 (drop 25 b)) c.args.number c.without_last_zeros.result c.write_six.ensures (behind_point b (drop 31 c.args.buffer.now) c.args.number c.write_six.ensures) c.without_last_zeros.ensures.text c.without_last_zeros.ensures.within c.if-number-eq0.false
