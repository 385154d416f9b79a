use Rattle.std.proofs.Common.{◌≡◌, ◌++◌, take}
use Rattle.app_part.specs.Mends.{places}
use Rattle.app_part.proofs.part.push_blames.Given as goal

abbrev pub invariant-loop-blame : goal.invariant-loop-blame
invariant-loop-blame l =
    (l.mends.blames ≡ l.fn.mends.blames ++ take l.blame-index l.blames)
    × (l.mends.refused ≡ l.fn.mends.refused ++ places (take l.blame-index l.blames))
