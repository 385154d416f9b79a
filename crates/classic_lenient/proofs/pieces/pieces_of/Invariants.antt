use Rattle.std.proofs.Common.{◌≡◌, map, take}
use Rattle.classic_lenient.specs.Pieces.{piece_of}
use Rattle.classic_lenient.proofs.pieces.pieces_of.Given as goal

abbrev pub invariant-loop-token : goal.invariant-loop-token
invariant-loop-token l = l.pieces ≡ map (piece_of l.text) (take l.token-index l.tokens)
