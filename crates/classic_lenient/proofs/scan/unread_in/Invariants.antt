use Rattle.std.proofs.Common.{◌≡◌, ◌++◌, drop}
use Rattle.classic_lenient.specs.Scan.{scan, unread_in}
use Rattle.classic_lenient.proofs.scan.unread_in.Given as goal

abbrev pub invariant-loop-at : goal.invariant-loop-at
invariant-loop-at l = l.found ++ scan l.place.skip l.place.around (drop l.at l.pieces) ≡ unread_in l.pieces
