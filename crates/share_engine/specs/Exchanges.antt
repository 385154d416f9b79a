-- What passes between a host and etcd.
use Rattle.std.specs.Prelude.{ℕ, ◌++◌, List, [], ◌∷◌, Option, None, Some}

-- a request, and the body of its answer, if one came whole
pub record Exchange : Type 0 where
  pub asked : List ℕ
  pub answer : Option (List ℕ)

-- the exchanges, if they are recorded, and one more
abbrev pub grown : Option (List Exchange) → Exchange → Option (List Exchange)
grown None x = None
grown (Some xs) x = Some (xs ++ x ∷ [])
