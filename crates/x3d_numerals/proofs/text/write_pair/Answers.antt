use Rattle.x3d_numerals.proofs.Buffers.{PAIRS_at, two_set}
use Rattle.x3d_numerals.proofs.text.write_pair.Goals as goal

pub returns : goal.returns
returns c = let p = PAIRS_at c.args.pair c.requires.pair in rw (p.0, p.1) (two_set c.args.buffer.now c.args.at _ _ c.requires.room)
