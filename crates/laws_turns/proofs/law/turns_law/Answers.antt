use Rattle.laws_turns.proofs.HostTurns.{host_runs_are_calls, host_turns_are_calls}
use Rattle.laws_turns.proofs.ViewerRuns.{viewer_runs_are_calls}
use Rattle.laws_turns.proofs.ViewerTurns.{viewer_turns_are_calls}
use Rattle.laws_turns.proofs.law.turns_law.Goals as goal

pub returns-clause-host_turns : goal.returns-clause-host_turns
returns-clause-host_turns c = host_turns_are_calls

pub returns-clause-host_runs : goal.returns-clause-host_runs
returns-clause-host_runs c = host_runs_are_calls

pub returns-clause-viewer_turns : goal.returns-clause-viewer_turns
returns-clause-viewer_turns c = viewer_turns_are_calls

pub returns-clause-viewer_runs : goal.returns-clause-viewer_runs
returns-clause-viewer_runs c = viewer_runs_are_calls
