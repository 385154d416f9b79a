-- A round: a turn of the host, and then a turn of each viewer.
use Rattle.std.specs.Prelude.{◌≡◌, ◌⊎◌, ℕ, Bool, List, length, Option, Result, Ok, Err}
use Rattle.x3d_values.specs.Stamp.{StampedView}
use Rattle.share_law.specs.Parts.{HostPart}
use Rattle.share_core.specs.Viewer.{ViewerView}
use Rattle.share_turns.specs.declared.fault.TurnFault.{TurnFault}
use Rattle.share_turns.specs.HostTurn.{IsHostTurn, failures_after}
use Rattle.share_turns.specs.Issuing.{clock_of, is_issued}
use Rattle.share_turns.specs.Seats.{Ways, Seats, seats_of, SeatTurns, SeatTurnsEnd}

-- a host, its viewers, and the port of each
pub record Meeting (P : Type 0) : Type 0 where
  pub host : HostPart
  pub port : P
  pub seats : Seats P

abbrev pub meeting : {P : Type 0} → HostPart → P → List ViewerView → List P → Meeting P
meeting host port viewers ports = record {
  host = host;
  port = port;
  seats = seats_of viewers ports;
}

-- the turn of the host, the first turn of a round
pub record IsFirstTurn {P : Type 0} (ways : Ways P) (mark : List ℕ) (step : Option StampedView)
    (old : Meeting P) (result : Result (Unit {0}) TurnFault) (new : Meeting P) : Type 0 where
  pub turn : IsHostTurn result mark (clock_of step) (ways.told old.port) (ways.told new.port)
      old.host new.host
  pub failures : ways.failures new.port ≡ failures_after result (ways.failures old.port)

-- a turn of the host and a turn of each viewer, and whether the step was issued in them
pub record IsRoundOf
    {P : Type 0} (ways : Ways P) (mark : List ℕ) (step : Option StampedView) (own : ℕ)
    (old : Meeting P) (issued : Bool) (new : Meeting P) : Type 0 where
  pub first : IsFirstTurn ways mark step old (Ok tt) new
  pub offered : Bool
  pub seated : SeatTurns ways step own (length old.seats.viewers) old.seats offered new.seats
  pub is : issued ≡ is_issued step offered

-- a round that ended early, in the host's turn or in a viewer's
abbrev pub IsRoundEnd : {P : Type 0} → Ways P → (mark : List ℕ) → Option StampedView → (own : ℕ)
    → Meeting P → TurnFault → Meeting P → Type 0
IsRoundEnd ways mark step own old fault new =
    (IsFirstTurn ways mark step old (Err fault) new × (new.seats ≡ old.seats))
    ⊎ (IsFirstTurn ways mark step old (Ok tt) new
    × SeatTurnsEnd ways step own old.seats fault new.seats)
