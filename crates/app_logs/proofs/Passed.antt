-- Signed numbers that are passed by value.
use Rattle.std.proofs.lemmas.Int.{to_z-of_z}
use Rattle.std.proofs.lemmas.Grind.{common_steps}

pub ruleset passed = (to_z-of_z, common_steps)
