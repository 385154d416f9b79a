-- A list that grew at its end.
use Rattle.std.specs.Prelude.{◌≡◌, List, ◌++◌}

-- the new list begins with the old one
pub record Grows {X : Type 0} (old new : List X) : Type 0 where
  pub more : List X
  pub is : new ≡ old ++ more
