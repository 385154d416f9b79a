use Rattle.scene_core.proofs.BuildLemmas.{scene-found, scene-fault}
use Rattle.scene_core.proofs.scene.Scene.build.Goals as goal

pub returns-in-Ok-sensor_lists : goal.returns-in-Ok-sensor_lists
returns-in-Ok-sensor_lists c =
    scene-found c.args.flat.now c.in_ok-numbering.numbering c.in-Ok.frame _ _ _ _ _ c.as_slice.ensures c.as_slice-roots.ensures c.as_slice-helpers.ensures c.in_ok-numbering.ensures
    c.as_slice-2.ensures c.in-Ok.ensures c.as_slice-3.ensures c.in-Ok-checked_nodes.nodes c.in-Ok-checked_nodes.ensures

pub returns-in-Err : goal.returns-in-Err
returns-in-Err c =
    scene-fault c.args.flat.now c.in_ok-numbering.numbering c.in-Ok.frame _ _ _ _ _ c.as_slice.ensures c.as_slice-roots.ensures c.as_slice-helpers.ensures c.in_ok-numbering.ensures
    c.as_slice-2.ensures c.in-Ok.ensures c.as_slice-3.ensures c.in-Err.refused c.in-Err.ensures
