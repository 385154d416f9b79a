use Rattle.std.proofs.Common.{◌≡◌, map, take}
use Rattle.script_running.specs.Runs as spec
use Rattle.script_running.proofs.run.runs_of.Given as goal

abbrev pub invariant-loop-asked : goal.invariant-loop-asked
invariant-loop-asked l = l.runs.items ≡ map (spec.run_of l.scene) (take l.asked-index l.specs)
