use Rattle.std.proofs.Common.{◌≡◌, length, map}
use Rattle.std.specs.Str.Lines.{lines}
use Rattle.app_part.specs.Kept.{first_lost}
use Rattle.app_part.specs.Tokens.{placed}
use Rattle.app_part.proofs.kept.first_among.Given as goal

abbrev pub invariant-loop-rest : goal.invariant-loop-rest
invariant-loop-rest l =
    first_lost (map (placed l.text) l.tokens) (lines l.names) ≡ first_lost (map (placed l.text) l.tokens) (lines l.rest)

abbrev pub decreases-loop-rest : goal.decreases-loop-rest
decreases-loop-rest l = length l.rest
