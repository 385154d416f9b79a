-- An input sends by outputs of the scene alone, by each once, and so does input 0.
use Rattle.std.proofs.Common.{◌≡◌, ◌+◌, ◌≤◌, true, false, List, [], ◌∷◌, length, refl, sym, ap, subst, arith, length-append}
use Rattle.std.proofs.lemmas.List.{length-map}
use Rattle.x3d_values.specs.Stamp.{StampedView}
use Rattle.x3d_values.specs.declared.stamped.Cause.{Cause}
use Rattle.x3d_values.specs.declared.stamped.Cause.TheVariants.{Clock, Pointer}
use Rattle.x3d_values.specs.declared.value.Value.{Value}
use Rattle.scene_core.specs.Scene.{SceneView, shapes_of}
use Rattle.scene_core.specs.Shape.{Shape}
use Rattle.scene_core.specs.declared.scene.End.{End}
use Rattle.scene_core.specs.declared.scene.Route.{Route}
use Rattle.laws_worlds.specs.Nodes.{RunsAll}
use Rattle.cascade_world.specs.Answers.{answer, met, pointer_at, ticked}
use Rattle.cascade_core.specs.Apply.{after_input, apply, begin, begun, untold}
use Rattle.cascade_core.specs.Course.{CourseView, Scripted, wiring_of}
use Rattle.cascade_trace.specs.Ends.{has_sent, targets_of}
use Rattle.cascade_core.specs.Outputs.{ends_from, is_scene_output, outputs_of}
use Rattle.cascade_world.specs.Insides.{insides}
use Rattle.cascade_core.specs.Stack.{unsent_among}
use Rattle.cascade_world.specs.World.{record_event}
use Rattle.cascade_trace.specs.declared.trace.TraceLine.{TraceLine}
use Rattle.cascade_world.specs.declared.world.Live.{Live}
use Rattle.cascade_core.proofs.Folds.{all_free}
use Rattle.cascade_core.proofs.Fuel.{unsent-bound, unsent-less}
use Rattle.cascade_core.proofs.Gains.{IsGain, gain-begin, gain-button, gain-record, gain-state}
use Rattle.cascade_core.proofs.SceneOutputs.{answer-sends, met-sends, ticked-sends}
use Rattle.laws_worlds.proofs.Walks.{EventKeeps, Rules, first_course, input_keeps, opening_is, opening_keeps}
use Rattle.laws_worlds.specs.Traces.{InputsSendFew, OpeningsSendFew}
use Rattle.laws_worlds.proofs.NetworksOutputs.{AreAmong, IsOutput, all_among, calls_send, running_among}

-- what was sent stands in the trace; those that have sent, and those of the scene that have not,
-- are no more than it has
pub record IsFew (shapes : List Shape) (start : List TraceLine) (live : Live) : Type 0 where
  pub gain : IsGain start live
  pub bound : length live.sent + unsent_among (ends_from 0 shapes) live.sent ≤ outputs_of shapes

begins : (shapes : List Shape) (live : Live) → live.sent ≡ [] → IsFew shapes live.world.trace live
begins shapes live none = record {
  gain = gain-begin live.world.trace live refl none;
  bound = omega (arith, unsent-bound shapes live, ap length none);
}

one_more : (shapes : List Shape) (start : List TraceLine) (live : Live) (source : End) (v : Value) → has_sent live.sent source ≡ false → is_scene_output shapes source ≡ true
    → IsFew shapes start live → IsFew shapes start (record_event live source v)
one_more shapes start live source v new o f = record {
  gain = gain-record start live source v new f.gain;
  bound = omega (arith, f.bound, unsent-less (ends_from 0 shapes) live.sent source o new, length-append live.sent (source ∷ []));
}

-- the lines that an input adds are as many as have sent
few_lines : (shapes : List Shape) (start : List TraceLine) (live : Live) → IsFew shapes start live → length live.world.trace ≤ length start + outputs_of shapes
few_lines shapes start live f =
    let g = f.gain in
    omega (arith, ap length g.gained, length-append start g.lines, length-map g.lines (λ (l : TraceLine). l.source), ap length g.sources, f.bound)

module _ (scene : SceneView) (routes : List Route) (all : RunsAll scene) (start : List TraceLine) where
  sending : Rules scene routes (IsFew (shapes_of scene) start) (AreAmong scene) (λ source v. IsOutput scene source) (λ target v. Unit {0})
  sending = record {
    comes = λ source v o. all_free (targets_of routes source);
    records = λ live source v new o f. one_more (shapes_of scene) start live source v new o f;
    answers = λ live target v come f.
        (record { gain = gain-state start live (answer (shapes_of scene) live.world target v) f.gain; bound = f.bound }, answer-sends (shapes_of scene) live.world target v);
    calls = λ scripts k call takes among. calls_send scene routes all scripts k call among;
  }

  event_keeps : (input : StampedView) (cause : Cause) → EventKeeps scene (IsFew (shapes_of scene) start) (λ source v. IsOutput scene source) input.time cause
  event_keeps input Clock = λ live node is f.
      (record { gain = gain-state start live (ticked live.world node input.time) f.gain; bound = f.bound }, ticked-sends scene live.world node input.time is)
  event_keeps input (Pointer p) = (
    λ live f. record { gain = gain-button start live p f.gain; bound = f.bound },
    λ first before live x t aims f.
        let at = pointer_at p before (insides scene first.world.fields p.ray) x.tracked x.sensor in
        (record { gain = gain-state start live (met scene live.world x.sensor at) f.gain; bound = f.bound }, met-sends scene live.world x.sensor at),
  )

pub sends_few : InputsSendFew
unfolding apply
sends_few scene routes w input all =
    let start : List TraceLine = w.world.trace in
    let c : CourseView = after_input scene (wiring_of scene routes) (begun scene w input) input in
    let h = input_keeps scene routes (IsFew (shapes_of scene) start) (AreAmong scene) (λ source v. IsOutput scene source) (λ target v. Unit {0}) (sending scene routes all start) w input
    (event_keeps scene routes all start input input.cause) (begins (shapes_of scene) (begin w.world input) refl) (running_among scene w.states) in
    few_lines (shapes_of scene) start c.live h.live

pub opening_few : OpeningsSendFew
opening_few scene routes all =
    let c : CourseView = first_course scene routes in
    let h = opening_keeps scene routes (IsFew (shapes_of scene) []) (AreAmong scene) (λ source v. IsOutput scene source) (λ target v. Unit {0}) (sending scene routes all [])
    (begins (shapes_of scene) (record { world = untold scene; sent = [] }) refl) (all_among scene) in
    let few : length c.live.world.trace ≤ outputs_of (shapes_of scene) = omega (arith, few_lines (shapes_of scene) [] c.live h.live) in
    subst (λ (w : Scripted). length w.world.trace ≤ outputs_of (shapes_of scene)) (sym (opening_is scene routes)) few
