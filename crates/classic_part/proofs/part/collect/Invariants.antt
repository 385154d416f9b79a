use Rattle.std.proofs.Common.{◌≡◌, ◌++◌, take}
use Rattle.std.specs.List.{flat_map}
use Rattle.classic_part.specs.Rounds.{left_one}
use Rattle.classic_part.proofs.part.collect.Given as goal

abbrev pub invariant-loop-note : goal.invariant-loop-note
invariant-loop-note l = l.left ≡ l.fn.left ++ flat_map left_one (take l.note-index l.notes)
