-- Laws of limits.
use Rattle.std.specs.Prelude.{◌≡◌, Ok}
use Rattle.proto_flat.specs.declared.flat.Flat.{Flat}
use Rattle.proto_meaning.specs.Limits.{Outcome, limited, with_few_routes}
use Rattle.proto_meaning.specs.Sight.{and_see}
use Rattle.proto_meaning.specs.Flat.{Does, ◌>>=◌}
use Rattle.proto_parts.specs.Settled.{State, full, settle, doing}

-- the limits may be checked as things are counted, and the number of routes at the end: the result
-- is the same
abbrev pub LimitsAreSettled : Type 0
LimitsAreSettled =
    (o : Outcome Flat) → limited o ≡ and_see (settle o full) (λ p. with_few_routes (Ok p.0))

-- one part after the other: the second uses what the first returns and the room that it leaves
abbrev pub PartsSettleInTurn : Type 0 → Type 0 → Type 0
PartsSettleInTurn A B =
    (m : Does A) (f : A → Does B) (s : State)
    → doing (m >>= f) s ≡ and_see (doing m s) (λ p. doing (f p.0) p.1)
