use Rattle.std.proofs.Common.{◌≡◌, false, subst}
use Rattle.scene_core.specs.Places.{any_crowded}
use Rattle.scene_core.specs.Scene.{SceneView}
use Rattle.scene_core.specs.Wide.{any_wide}
use Rattle.scene_core.proofs.LimitLemmas.{uncrowded, numbered}
use Rattle.scene_core.proofs.scene.Scene.keeps_limits.Goals as goal

pub returns-clause-uncrowded : goal.returns-clause-uncrowded
returns-clause-uncrowded c =
    subst (λ (v : SceneView). any_crowded v.nodes v.roots ≡ false) c.self.view_is (uncrowded c.self.inside.nodes c.self.inside.roots c.self.invariant.0)

pub returns-clause-numbered : goal.returns-clause-numbered
returns-clause-numbered c = subst (λ (v : SceneView). any_wide v.nodes ≡ false) c.self.view_is (numbered c.self.inside.nodes c.self.inside.roots c.self.invariant.0)
