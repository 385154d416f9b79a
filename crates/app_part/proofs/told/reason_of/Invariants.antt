use Rattle.std.proofs.Common.{◌≡◌, drop}
use Rattle.app_part.specs.Told.{reason_of}
use Rattle.app_part.proofs.told.reason_of.Given as goal

abbrev pub invariant-loop-blame : goal.invariant-loop-blame
invariant-loop-blame l = reason_of l.blames l.at ≡ reason_of (drop l.blame-index l.blames) l.at
