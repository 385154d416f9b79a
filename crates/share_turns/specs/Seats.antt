-- Turns of several viewers, each with its own port, in the order of their numbers.
use Rattle.std.specs.Prelude.{◌≡◌, ℕ, zero, suc, ◌<◌, ◌||◌, Bool, false, List, length, slice_get}
use Rattle.std.specs.Prelude.{slice_set, Option, Some, Result, Ok, Err}
use Rattle.x3d_values.specs.Stamp.{StampedView}
use Rattle.cascade_core.specs.Course.{Scripted}
use Rattle.share_law.specs.Viewer.{ViewerState}
use Rattle.share_core.specs.Viewer.{ViewerView, with_state}
use Rattle.share_turns.specs.declared.traffic.Traffic.{Traffic}
use Rattle.share_turns.specs.declared.fault.TurnFault.{TurnFault}
use Rattle.share_turns.specs.HostTurn.{failures_after}
use Rattle.share_turns.specs.Views.{IsTurnOf}
use Rattle.share_turns.specs.Issuing.{offer_of}

-- what a port recorded of its traffic, and how many of its sends and receives failed
pub record Ways (P : Type 0) : Type 0 where
  pub told : P → Option (List Traffic)
  pub failures : P → ℕ

abbrev pub ways_of : {P : Type 0} → (told : P → Option (List Traffic)) → (failures : P → ℕ) → Ways P
ways_of told failures = record { told = told; failures = failures }

-- viewers, and the port of each
pub record Seats (P : Type 0) : Type 0 where
  pub viewers : List ViewerView
  pub ports : List P

abbrev pub seats_of : {P : Type 0} → List ViewerView → List P → Seats P
seats_of viewers ports = record { viewers = viewers; ports = ports }

-- a turn of the viewer with this number, which changes only this viewer and its port
pub record IsSeatTurn {P : Type 0} (ways : Ways P) (step : Option StampedView) (host who : ℕ)
    (old : Seats P) (result : Result Bool TurnFault) (new : Seats P) : Type 0 where
  pub viewer : ViewerView
  pub port : P
  pub is_viewer : slice_get old.viewers who ≡ Some viewer
  pub is_port : slice_get old.ports who ≡ Some port
  pub left : ViewerState Scripted
  pub left_port : P
  pub turn : IsTurnOf viewer host (offer_of step who) (ways.told port) (ways.told left_port)
      result left
  pub failures : ways.failures left_port ≡ failures_after result (ways.failures port)
  pub viewers : new.viewers ≡ slice_set old.viewers who (with_state viewer left)
  pub ports : new.ports ≡ slice_set old.ports who left_port

-- turns of the first `viewers` viewers, and whether one of them offered its point
abbrev pub SeatTurns : {P : Type 0} → Ways P → Option StampedView → (host viewers : ℕ) → Seats P
    → (offered : Bool) → Seats P → Type 0
SeatTurns ways step host zero old offered new = (offered ≡ false) × (new ≡ old)
SeatTurns {P} ways step host (suc n) old offered new =
    (mid : Seats P) × (before did : Bool) × SeatTurns ways step host n old before mid
    × IsSeatTurn ways step host n mid (Ok did) new × (offered ≡ (before || did))

-- like `SeatTurns`, up to a turn that ended early
pub record SeatTurnsEnd {P : Type 0} (ways : Ways P) (step : Option StampedView) (host : ℕ)
    (old : Seats P) (fault : TurnFault) (new : Seats P) : Type 0 where
  pub done : ℕ
  pub fewer : done < length old.viewers
  pub mid : Seats P
  pub offered : Bool
  pub before : SeatTurns ways step host done old offered mid
  pub last : IsSeatTurn ways step host done mid (Err fault) new
