-- An input keeps a world that fits.
use Rattle.std.proofs.Common.{◌≡◌, ℕ, zero, suc, ◌<◌, ◌≤◌, ◌^◌, ℤ, pos, int_le, Bool, true, false, if◌then◌else◌, nat_lt, nat_le, List, [], ◌∷◌, length, map, Option, Some, None, slice_get, refl, sym, ap, subst, ◌∙◌, arith, leb-true, ltb-true, length-append, length-set, length-take}
use Rattle.std.specs.Option.{option_map_or}
use Rattle.std.proofs.lemmas.Int.{ints}
use Rattle.std.proofs.lemmas.List.{length-map}
use Rattle.byte_codec.proofs.Laws.{both, and_true}
use Rattle.x3d_values.specs.declared.node_type.NodeType.{NodeType}
use Rattle.x3d_values.specs.declared.node_type.NodeType.TheVariants.{Group, TimeSensor}
use Rattle.x3d_values.specs.declared.stamped.Cause.{Cause}
use Rattle.x3d_values.specs.declared.stamped.Cause.TheVariants.{Clock, Pointer}
use Rattle.x3d_values.specs.Pointing.{PointerView}
use Rattle.x3d_values.specs.Ranges.{coordinates_fit, is_input_time, is_viewer, max_inputs}
use Rattle.x3d_values.specs.Tables.{FieldRowView, rows}
use Rattle.x3d_values.specs.declared.vector.Vec3.{Vec3}
use Rattle.react_core.specs.Reaction.{is_time_sensor}
use Rattle.sensor_plane.specs.declared.meeting.SensorPointer.{SensorPointer}
use Rattle.snapshot_codec.specs.Trace.{is_moment}
use Rattle.scene_core.specs.Places.{is_pointing}
use Rattle.scene_core.specs.declared.row.DeclaredField.{DeclaredField}
use Rattle.scene_core.specs.declared.scene.Route.{Route}
use Rattle.scene_core.specs.declared.scene.SceneNode.{SceneNode}
use Rattle.scene_core.specs.Scene.{SceneView, shape_of, shapes_of, types_of}
use Rattle.scene_core.specs.Shape.{Shape, rows_of, declared_entry, most_declared, numbered_fields, shape_by}
use Rattle.cascade_world.specs.Answers.{answer, met, pointer_at, ticked}
use Rattle.cascade_core.specs.Apply.{after_input, apply, begun, with_button}
use Rattle.cascade_core.specs.Course.{CourseView, Scripted, ended, wiring_of}
use Rattle.cascade_world.specs.Insides.{Insides, insides}
use Rattle.cascade_world.specs.Nodes.{is_clock, is_sensor}
use Rattle.cascade_world.specs.Pointer.{tracked_at}
use Rattle.cascade_world.specs.declared.aim.Concerned.{Concerned}
use Rattle.cascade_core.specs.Scripts.{scripts_in}
use Rattle.cascade_world.specs.declared.world.Live.{Live}
use Rattle.cascade_world.proofs.Shapes.{shape_at}
use Rattle.laws_worlds.proofs.Rows.{some_is}
use Rattle.laws_worlds.specs.Fits.{IsStaged, OpeningsFit, ScriptedFits, StepsFit, WorldFits, is_event}
use Rattle.laws_worlds.proofs.Calls.{InStates, calls_fit, running_in, starts_in, states_are}
use Rattle.laws_worlds.proofs.Drags.{answers_lead, meets_lead, starts_lead, ticks_lead}
use Rattle.laws_worlds.proofs.Places.{contact_right, insides_lead, place_fits}
use Rattle.laws_worlds.proofs.Sending.{AreShort, Comes, Fit, Leaves, answered_fits, record_fits, targets_fit}
use Rattle.laws_worlds.proofs.States.{answers, meets, ticks, time_is, tracks, with_type}
use Rattle.laws_worlds.proofs.Walks.{Aims, EventKeeps, Holds, PointKeeps, Rules, TickKeeps, first_course, input_keeps, opening_is, opening_keeps}

-- ---- the sensors

-- the node of that number has that type, and declares what it does
abbrev Typed : SceneView → ℕ → NodeType → Type 0
Typed scene n t = (ds : List FieldRowView) × (slice_get (shapes_of scene) n ≡ Some (with_type t ds))

shaped : (scene : SceneView) (n : ℕ) (t : NodeType) → slice_get (types_of scene) n ≡ Some t → Typed scene n t
shaped scene n t e =
    let h = shape_at scene n t e in
    (h.shape.declared, h.at ∙ ap (λ (k : NodeType). Some (with_type k h.shape.declared)) h.is)

clock_at : (scene : SceneView) (n : ℕ) → is_clock (types_of scene) n ≡ true → Typed scene n TimeSensor
clock_at scene n e = shaped scene n TimeSensor (given (slice_get (types_of scene) n) e)
  where
    given : (o : Option NodeType) → option_map_or is_time_sensor o false ≡ true → o ≡ Some TimeSensor
    given None h = absurd cc
    given (Some k) h = ap (λ (t : NodeType). Some t) (time_is k h)

-- a pointing sensor is a node of the scene
sensor_at : (scene : SceneView) (n : ℕ) → is_sensor (types_of scene) n ≡ true → (s : Shape) × (slice_get (shapes_of scene) n ≡ Some s)
sensor_at scene n e = given (slice_get (types_of scene) n) refl e
  where
    given : (o : Option NodeType) → slice_get (types_of scene) n ≡ o → option_map_or is_pointing o false ≡ true → (s : Shape) × (slice_get (shapes_of scene) n ≡ Some s)
    given None is h = absurd cc
    given (Some t) is h = let s = shaped scene n t is in (with_type t s.0, s.1)

-- ---- the fields of a scene's nodes

rows_few : (t : NodeType) → nat_lt (length (rows t)) 65536 ≡ true
rows_few Group = refl
rows_few _ = refl

short_one : (t : NodeType) (declared : List DeclaredField) → length (rows_of (shape_by t declared)) ≤ 65536
short_one t declared =
    let own : length (rows t) < 65536 = ltb-true (length (rows t)) 65536 (rows_few t) in
    let all = length-append (rows t) (map declared_entry (numbered_fields t declared)) in
    let behind = length-map (numbered_fields t declared) declared_entry in
    omega (arith, own, all, behind, length-take (most_declared t) declared)

short_nodes : (ns : List SceneNode) → AreShort (map shape_of ns)
short_nodes [] n s e = absurd cc
short_nodes (node ∷ ns) zero s e = subst (λ (k : Shape). length (rows_of k) ≤ 65536) (some_is (shape_of node) s e) (short_one node.node_type node.declared)
short_nodes (node ∷ ns) (suc n) s e = short_nodes ns n s e

-- ---- an input

module _ (scene : SceneView) (routes : List Route) (staged : IsStaged scene routes) where
  abbrev shapes : List Shape
  shapes = shapes_of scene

  fitting : Rules scene routes (Fit scene) (InStates scene) (Leaves (shapes_of scene)) (Comes (shapes_of scene))
  fitting = record {
    comes = λ source v l. targets_fit shapes routes source v staged.joined l;
    records = λ live source v new l p. record_fits scene staged.few (short_nodes scene.nodes) live source v l p;
    answers = λ live target v come p.
        answered_fits scene live target.node (answer shapes live.world target v) p
        (answers shapes live.world p.world.nodes p.world.last target v come) (answers_lead scene live.world p.paths shapes target v);
    calls = λ scripts k call takes s. calls_fit scene routes staged.run scripts k call takes s;
  }

  tick_fits : (now : ℤ) → is_moment now ≡ true → TickKeeps scene (Fit scene) (Leaves (shapes_of scene)) now
  tick_fits now m live n q p =
      let is = clock_at scene n q in
      answered_fits scene live n (ticked live.world n now) p (ticks shapes live.world p.world.nodes p.world.last now m n is.0 is.1)
      (ticks_lead scene live.world p.paths n now)

  -- where the ray of a viewer meets the plane of a drag
  aim_fits : (p : PointerView) (first : Live) (x : Concerned) → Fit scene first → Aims scene first.world p x → option_map_or coordinates_fit x.tracked true ≡ true
  aim_fits p first x f aims =
      let is = sensor_at scene x.sensor aims.sensor in
      subst (λ (o : Option Vec3). option_map_or coordinates_fit o true ≡ true) (sym aims.tracked)
      (given aims.drags (tracks shapes first.world f.world.nodes f.world.last scene x.sensor is.0 p is.1))
    where
      given : (b : Bool) → option_map_or coordinates_fit (tracked_at scene first.world p x.sensor) true ≡ true → option_map_or coordinates_fit (if b then tracked_at scene first.world p x.sensor else None) true ≡ true
      given true fits = fits
      given false fits = refl

  meet_fits : (p : PointerView) → is_viewer p.who ≡ true → PointKeeps scene (Fit scene) (Leaves (shapes_of scene)) p
  meet_fits p v first before live x t aims f =
      let inside : Insides = insides scene first.world.fields p.ray in
      let at : SensorPointer = pointer_at p before inside x.tracked x.sensor in
      let all = insides_lead scene first.world.fields p.ray in
      let right = contact_right scene inside x.sensor all in
      let is = sensor_at scene x.sensor aims.sensor in
      answered_fits scene live x.sensor (met scene live.world x.sensor at) f
      (meets shapes live.world f.world.nodes f.world.last scene x.sensor is.0 at is.1 v (place_fits scene inside x.sensor all) right.0 (aim_fits p first x t aims))
      (meets_lead scene live.world f.paths x.sensor at right.1)

  button_fits : (p : PointerView) (live : Live) → Fit scene live → Fit scene (with_button live p)
  button_fits p live f =
      let w = f.world in
      record { world = record { count = w.count; last = w.last; nodes = w.nodes; buttons = length-set live.world.buttons p.who p.down ∙ w.buttons; lines = w.lines }; paths = f.paths }

  event_fits : (now : ℤ) → is_moment now ≡ true → (cause : Cause) → is_event cause ≡ true → EventKeeps scene (Fit scene) (Leaves (shapes_of scene)) now cause
  event_fits now m Clock v = tick_fits now m
  event_fits now m (Pointer p) v = (button_fits p, meet_fits p v)

  -- the world that a course ends with
  ended_fits : (c : CourseView) → Holds (Fit scene) (InStates scene) c → ScriptedFits scene (ended c)
  ended_fits c h = record { world = h.live.world; paths = h.live.paths; states = states_are (scripts_in scene) c.scripts h.scripts.kinds h.scripts.states }

moment_of : (t : ℤ) → is_input_time t ≡ true → is_moment t ≡ true
moment_of t e = let b = both (int_le (pos 1) t) (int_le t (pos (10 ^ 18))) e in and_true _ _ (later t b.0) b.1
  where
    later : (z : ℤ) → int_le (pos 1) z ≡ true → int_le (pos 0) z ≡ true
    later z h = grind (arith, ints)

pub all_steps_fit : StepsFit
unfolding apply
all_steps_fit scene routes w input staged is f =
    let n = both (nat_le 1 input.number) (nat_le input.number max_inputs) is.number in
    let most = leb-true input.number max_inputs n.1 in
    let number = is.next in
    let m = moment_of input.time is.time in
    let old : WorldFits (shapes_of scene) w.world = f.world in
    ended_fits scene routes staged (after_input scene (wiring_of scene routes) (begun scene w input) input)
    (input_keeps scene routes (Fit scene) (InStates scene) (Leaves (shapes_of scene)) (Comes (shapes_of scene)) (fitting scene routes staged) w input
    (event_fits scene routes staged input.time m input.cause is.cause)
    (record { world = record { count = omega (arith, most, number); last = m; nodes = old.nodes; buttons = old.buttons; lines = old.lines }; paths = f.paths })
    (running_in scene w.states f.states))

pub all_openings_fit : OpeningsFit
all_openings_fit scene routes staged world starts =
    let c : CourseView = first_course scene routes in
    subst (λ (w : Scripted). ScriptedFits scene w) (sym (opening_is scene routes))
    (ended_fits scene routes staged c
    (opening_keeps scene routes (Fit scene) (InStates scene) (Leaves (shapes_of scene)) (Comes (shapes_of scene)) (fitting scene routes staged)
    (record { world = world; paths = starts_lead scene 0 (types_of scene) }) (starts_in scene starts)))
