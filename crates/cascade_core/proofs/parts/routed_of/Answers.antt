use Rattle.std.proofs.Common.{rules, ◌≡◌, map}
use Rattle.script_running.specs.Runs.{run_of}
use Rattle.script_running.specs.Scripts.{script_list}
use Rattle.cascade_core.proofs.SoundPlans.{sound_scene}
use Rattle.cascade_core.proofs.parts.routed_of.Goals as goal

pub returns-clause-sound : goal.returns-clause-sound
returns-clause-sound c =
    let are : c.in-Ok.runs ≡ map (run_of c.args.scene) (script_list c.args.scene) = search rules in
    λ scripts fits. sound_scene c.args.scene c.args.routes c.in-Ok.runs are scripts fits
