use Rattle.std.proofs.Common.{◌≡◌, ◌∙◌, ℕ, List, [], Option, None, map, sym, subst, ap}
use Rattle.std.specs.List.{fold}
use Rattle.x3d_values.specs.declared.fields.Fields.{Fields}
use Rattle.x3d_values.specs.Pointing.{RayView}
use Rattle.scene_core.specs.Scene.{SceneView}
use Rattle.pick_core.specs.Boxes.{boxes, inside, under}
use Rattle.pick_core.specs.Nearest.{IsPicked}
use Rattle.pick_core.specs.Picked.{nearer, picked}
use Rattle.pick_core.specs.Spread.{spread}
use Rattle.pick_core.specs.Trail.{raised}
use Rattle.pick_core.specs.declared.hit.Hit.{Hit}
use Rattle.pick_core.specs.declared.trail.Place.{Place}
use Rattle.pick_core.proofs.Choosing.{picks-nearest}
use Rattle.pick_core.proofs.Trails.{boxes-is}
use Rattle.pick_core.proofs.walk.pick.Goals as goal

-- a walk from the roots, from nothing
walked : (scene : SceneView) (state : List Fields) (ray : RayView) (best : Option Hit) (trail : List Place) (roots : List ℕ) → best ≡ fold (nearer ray) None (map (raised scene state trail) (spread (under scene state) (inside scene state 64) 0 roots)) → trail ≡ [] → roots ≡ scene.roots → best ≡ picked ray (boxes scene state)
walked scene state ray best trail roots h empty all =
    let from : List Place → List ℕ → Option Hit = λ ps ns. fold (nearer ray) None (map (raised scene state ps) (spread (under scene state) (inside scene state 64) 0 ns)) in
    h ∙ (ap (λ ps. from ps roots) empty ∙ (ap (λ ns. from [] ns) all ∙ ap (fold (nearer ray) None) (sym (boxes-is scene state))))

pub returns-clause-value : goal.returns-clause-value
returns-clause-value c =
    walked c.args.scene.now c.args.state.now c.args.ray c.visit_all.new.walk.best c.new.result.items c.roots.result.now c.visit_all.ensures.best c.new.ensures c.roots.ensures

pub returns-clause-nearest : goal.returns-clause-nearest
returns-clause-nearest c =
    let scene = c.args.scene.now in
    let state = c.args.state.now in
    let value = walked scene state c.args.ray c.visit_all.new.walk.best c.new.result.items c.roots.result.now c.visit_all.ensures.best c.new.ensures c.roots.ensures in
    subst (λ (hit : Option Hit). IsPicked c.args.ray (boxes scene state) hit) (sym value) (picks-nearest scene state c.args.ray)
