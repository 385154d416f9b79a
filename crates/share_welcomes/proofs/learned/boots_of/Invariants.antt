use Rattle.std.proofs.Common.{◌≡◌, take}
use Rattle.share_welcomes.specs.Learned.{boots_of}
use Rattle.share_welcomes.proofs.learned.boots_of.Given as goal

abbrev pub invariant-loop-place : goal.invariant-loop-place
invariant-loop-place l = l.boots ≡ boots_of (take l.place l.kept)
