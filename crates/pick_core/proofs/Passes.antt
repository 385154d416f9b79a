-- Signed numbers that are handed on.
use Rattle.std.proofs.lemmas.Int.{to_z-of_z}

-- a signed number that was handed on is the number
pub ruleset passed = (to_z-of_z)
