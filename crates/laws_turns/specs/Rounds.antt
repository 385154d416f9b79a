-- Rounds of a host and its viewers, which `agree` makes, are calls on each of them.
use Rattle.std.specs.Prelude.{◌≡◌, ℕ, List, slice_get, Some}
use Rattle.x3d_values.specs.Stamp.{StampedView}
use Rattle.share_core.specs.Viewer.{ViewerView}
use Rattle.share_turns.specs.declared.fault.SeriesFault.{SeriesFault}
use Rattle.share_turns.specs.Agreeing.{AreAgreed, IsAgreeEnd}
use Rattle.share_turns.specs.Round.{Meeting}
use Rattle.share_turns.specs.Seats.{Ways}
use Rattle.laws_turns.specs.HostDoings.{HostDoes}
use Rattle.laws_turns.specs.ViewerDoings.{ViewerDoes}

-- viewer `who` and its port are there after the rounds, and it did calls in them
pub record Follows {P : Type 0} (ways : Ways P) (new : Meeting P) (who : ℕ) (v : ViewerView)
    (port : P) : Type 0 where
  pub now : ViewerView
  pub left : P
  pub viewer : slice_get new.seats.viewers who ≡ Some now
  pub port_is : slice_get new.seats.ports who ≡ Some left
  pub does : ViewerDoes (ways.told port) (ways.told left) v now

-- what the host, and each viewer with a port, did in these rounds
pub record EachDoes {P : Type 0} (ways : Ways P) (mark : List ℕ) (old new : Meeting P) :
    Type 0 where
  pub host : HostDoes mark (ways.told old.port) (ways.told new.port) old.host new.host
  pub viewers : (who : ℕ) (v : ViewerView) (port : P)
      → slice_get old.seats.viewers who ≡ Some v → slice_get old.seats.ports who ≡ Some port
      → Follows ways new who v port

pub record RoundsAreCalls {P : Type 0} (ways : Ways P) : Type 0 where
  pub done : (mark : List ℕ) (steps : List StampedView) (own rounds : ℕ) (old new : Meeting P)
      → AreAgreed ways mark steps own rounds old new → EachDoes ways mark old new
  pub ended : (mark : List ℕ) (steps : List StampedView) (own rounds : ℕ) (old new : Meeting P)
      (fault : SeriesFault)
      → IsAgreeEnd ways mark steps own rounds old fault new → EachDoes ways mark old new
