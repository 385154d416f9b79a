use Rattle.snapshot_codec.proofs.KeptLaws.{fields_exact}
use Rattle.snapshot_codec.proofs.PartLaws.{cycle_exact, touch_exact, plane_exact, position_exact, state_exact, states_exact}
use Rattle.snapshot_codec.proofs.ValueLaws.{value_exact}
use Rattle.snapshot_codec.proofs.exactness.nodes_are_exact.Goals as goal

pub returns-clause-value : goal.returns-clause-value
returns-clause-value c = value_exact

pub returns-clause-fields : goal.returns-clause-fields
returns-clause-fields c = fields_exact

pub returns-clause-cycle : goal.returns-clause-cycle
returns-clause-cycle c = cycle_exact

pub returns-clause-touch : goal.returns-clause-touch
returns-clause-touch c = touch_exact

pub returns-clause-plane : goal.returns-clause-plane
returns-clause-plane c = plane_exact

pub returns-clause-position : goal.returns-clause-position
returns-clause-position c = position_exact

pub returns-clause-state : goal.returns-clause-state
returns-clause-state c = state_exact

pub returns-clause-states : goal.returns-clause-states
returns-clause-states c = states_exact
