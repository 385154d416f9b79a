use Rattle.std.proofs.Common.{◌≡◌, subst}
use Rattle.scene_core.specs.Scene.{SceneView}
use Rattle.scene_core.specs.SensorLists.{sensors_below}
use Rattle.scene_core.proofs.SensorLemmas.{kept-are}
use Rattle.scene_core.proofs.scene.Scene.sensors_below.Goals as goal

pub returns : goal.returns
returns c =
    let s = c.self.inside in
    let view : SceneView = record { header = s.header; nodes = s.nodes; roots = s.roots; helpers = s.helpers; opened = s.opened; numbers = s.numbers } in
    subst (λ (v : SceneView). c.below.result.now ≡ sensors_below v c.args.owner) c.self.view_is (kept-are view s.sensors c.args.owner c.below.result.now c.self.invariant.1 c.below.ensures)
