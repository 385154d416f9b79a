-- The course of an input adds to the trace a line for each output that sends, and each output sends once.
use Rattle.std.proofs.Common.{◌≡◌, List, [], refl}
use Rattle.x3d_values.specs.Stamp.{StampedView}
use Rattle.scene_core.specs.Scene.{SceneView}
use Rattle.cascade_core.specs.Apply.{after_input}
use Rattle.cascade_core.specs.Course.{CourseView, Wiring}
use Rattle.cascade_trace.specs.declared.trace.TraceLine.{TraceLine}
use Rattle.cascade_core.proofs.Gains.{IsGain, gain-begin, gain-button, gain-record, gain-state}
use Rattle.cascade_core.proofs.Settled.{input-of}

-- an input of a course in which no output has sent
pub gain-input : (scene : SceneView) (wiring : Wiring) (c : CourseView) (input : StampedView) → c.live.sent ≡ [] → IsGain c.live.world.trace (after_input scene wiring c input).live
gain-input scene wiring c input none =
    let start : List TraceLine = c.live.world.trace in
    input-of wiring (λ (d : CourseView). IsGain start d.live) (λ d s v h p. gain-record start d.live s v h p) (λ d a p. gain-state start d.live a p)
    (λ d p q. gain-button start d.live p q) (λ d k call p. p) (λ d k p. p) scene c input (gain-begin start c.live refl none)
