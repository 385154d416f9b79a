-- Signed numbers that are passed by value, on the way between two values.
use Rattle.std.proofs.lemmas.Int.{to_z-of_z}
use Rattle.react_core.proofs.PlaceLemmas.{between-some}

pub ruleset passed = (to_z-of_z, between-some)
