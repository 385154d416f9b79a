use Rattle.laws_turns.proofs.Forgetting.{forgettings_are_moves}
use Rattle.laws_turns.proofs.Steps.{host_doings_are_steps, viewer_doings_are_steps}
use Rattle.laws_turns.proofs.law.doings_law.Goals as goal

pub returns-clause-host : goal.returns-clause-host
returns-clause-host c = host_doings_are_steps c.steps_law.ensures.calls

pub returns-clause-viewer : goal.returns-clause-viewer
returns-clause-viewer c = viewer_doings_are_steps c.steps_law.ensures.calls

pub returns-clause-forgettings : goal.returns-clause-forgettings
returns-clause-forgettings c = forgettings_are_moves
