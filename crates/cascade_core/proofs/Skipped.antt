-- A sensor at which nothing happens is skipped.
use Rattle.std.proofs.Common.{◌≡◌, ap, subst, sym, ℕ, ℤ, Bool}
use Rattle.x3d_values.specs.Pointing.{PointerView}
use Rattle.scene_core.specs.Scene.{SceneView}
use Rattle.cascade_world.specs.Answers.{NodeAnswer, met, nothing, pointer_at, ticked, with_answer}
use Rattle.cascade_world.specs.Insides.{Insides}
use Rattle.cascade_world.specs.declared.aim.Concerned.{Concerned}
use Rattle.cascade_world.specs.declared.world.WorldData.{WorldData}
use Rattle.cascade_core.specs.Apply.{point_node, tick_node}
use Rattle.cascade_core.specs.Cascade.{send_replies}
use Rattle.cascade_core.specs.Course.{CourseView, Wiring, with_live}

-- what a node answers is sent
abbrev answering : Wiring → CourseView → ℕ → NodeAnswer → CourseView
answering wiring c node a = send_replies wiring node (with_live c (with_answer c.live a)) a.replies

-- the clock does nothing at a node of a world, and so in a course of it
pub idle-course : (wiring : Wiring) (now : ℤ) (w : WorldData) (c : CourseView) (node : ℕ) → ticked w node now ≡ nothing w → c.live.world ≡ w → c ≡ tick_node wiring now c node
unfolding tick_node
idle-course wiring now w c node h same =
    let here : ticked c.live.world node now ≡ nothing c.live.world = subst (λ (u : WorldData). ticked u node now ≡ nothing u) (sym same) h in
    sym (ap (answering wiring c node) here)

-- nor does a pointer
pub passed-course : (scene : SceneView) (wiring : Wiring) (p : PointerView) (before : Bool) (is : Insides) (w : WorldData) (c : CourseView) (x : Concerned) →
    met scene w x.sensor (pointer_at p before is x.tracked x.sensor) ≡ nothing w → c.live.world ≡ w → c ≡ point_node scene wiring p before is c x
unfolding point_node
passed-course scene wiring p before is w c x h same =
    let at = pointer_at p before is x.tracked x.sensor in
    let here : met scene c.live.world x.sensor at ≡ nothing c.live.world = subst (λ (u : WorldData). met scene u x.sensor at ≡ nothing u) (sym same) h in
    sym (ap (answering wiring c x.sensor) here)
