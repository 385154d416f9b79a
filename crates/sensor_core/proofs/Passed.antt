-- Signed numbers that are passed by value.
use Rattle.std.proofs.lemmas.Int.{to_z-of_z}
use Rattle.std.proofs.lemmas.List.{append_assoc}

pub ruleset passed = (to_z-of_z, append_assoc)
