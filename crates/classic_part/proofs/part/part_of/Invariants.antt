use Rattle.std.proofs.Common.{◌≡◌, ℕ, suc, ◌++◌}
use Rattle.classic_part.specs.Rounds.{after, next, left_in}
use Rattle.classic_part.proofs.Weights.{weight}
use Rattle.classic_part.proofs.part.part_of.Given as goal

-- a round, and the one after it
abbrev pub invariant-loop-alloc : goal.invariant-loop-alloc
invariant-loop-alloc l =
    (n : ℕ) × (l.made ≡ after n l.refused l.document) × (l.after ≡ next l.refused l.made)
    × (l.left ≡ l.fn.left ++ left_in (suc n) l.refused l.document)

abbrev pub decreases-loop-alloc : goal.decreases-loop-alloc
decreases-loop-alloc l = weight l.made.document
