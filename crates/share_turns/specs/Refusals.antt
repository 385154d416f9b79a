-- Which calls of a turn were refused memory, and what the turn then answers.
use Rattle.std.specs.Prelude.{◌≡◌, ℕ, Bool, true, false, List, [], ◌∷◌, ◌++◌, replicate}
use Rattle.std.specs.Prelude.{Result, Err}
use Rattle.share_turns.specs.declared.fault.TurnFault.{TurnFault}
use Rattle.share_turns.specs.declared.fault.TurnFault.TheVariants.{Memory, Spoiled}

-- What a turn answers, given which of its calls were refused memory: `Memory` exactly if the last
-- call was and none before it, and never `Spoiled`.
abbrev pub IsAnswerAfter : {A : Type 0} → (refusals : List Bool) → Result A TurnFault → Type 0
IsAnswerAfter refusals (Err Memory) = (n : ℕ) × (refusals ≡ replicate n false ++ true ∷ [])
IsAnswerAfter refusals (Err Spoiled) = ⊥
IsAnswerAfter refusals result = (n : ℕ) × (refusals ≡ replicate n false)
