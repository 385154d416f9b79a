use Rattle.std.proofs.Common.{◌≡◌, drop}
use Rattle.byte_codec.specs.Codec.{all_fit}
use Rattle.snapshot_codec.proofs.ranged.all_fit.Given as goal

-- those that are left decide
abbrev pub invariant-loop-item : goal.invariant-loop-item
invariant-loop-item g l = all_fit g.T.Ranged.codec (drop l.item-index l.items) ≡ all_fit g.T.Ranged.codec l.items
