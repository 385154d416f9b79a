-- The effect of an input, and the world of a scene and its inputs (ISO/IEC 19775-1, event model:
-- execution model). Our choice: the clock goes to the time sensors, and a pointer to the pointing
-- sensors, in number order; the order of scripts.
use Rattle.std.specs.Prelude.{ℕ, ℤ, pos, Bool, false, ◌++◌, List, [], ◌∷◌, None, length, map, replicate}
use Rattle.std.specs.List.{fold, range_with_len}
use Rattle.x3d_values.specs.declared.ranges.TheConstants.{MAX_VIEWERS}
use Rattle.x3d_values.specs.declared.stamped.Cause.{Cause}
use Rattle.x3d_values.specs.declared.stamped.Cause.TheVariants.{Clock, Pointer}
use Rattle.x3d_values.specs.Pointing.{PointerView}
use Rattle.x3d_values.specs.Stamp.{StampedView}
use Rattle.sensor_plane.specs.Pointing.{start_of}
use Rattle.react_core.specs.declared.outbox.SentEvent.{SentEvent}
use Rattle.scene_core.specs.declared.scene.Route.{Route}
use Rattle.scene_core.specs.Scene.{SceneView, state_of, types_of}
use Rattle.script_host.specs.Behaviour.{Initialize}
use Rattle.script_host.specs.Hosting.{SlotView}
use Rattle.script_running.specs.Acting.{act}
use Rattle.cascade_world.specs.Answers.{met, pointer_at, ticked, with_answer}
use Rattle.cascade_world.specs.Insides.{Insides, insides}
use Rattle.cascade_core.specs.Cascade.{send_replies}
use Rattle.cascade_core.specs.Course.{CourseView, Wiring, Scripted, course, ended, node_of, wiring_of, ports_of, with_live}
use Rattle.cascade_world.specs.Nodes.{clocks_of}
use Rattle.cascade_world.specs.Pointer.{concerned, is_down}
use Rattle.cascade_core.specs.Scripts.{kinds_in, running, scripts_in}
use Rattle.cascade_core.specs.Settles.{settle}
use Rattle.cascade_world.specs.declared.aim.Concerned.{Concerned}
use Rattle.cascade_world.specs.declared.world.WorldData.{WorldData}
pub use Rattle.cascade_world.specs.World.{begin, with_button}

-- ---- an input

-- a time sensor ticks, and the events that it sends are followed
unfoldable pub tick_node : Wiring → ℤ → CourseView → ℕ → CourseView
tick_node wiring now c node =
    let t = ticked c.live.world node now in
    send_replies wiring node (with_live c (with_answer c.live t)) t.replies

-- a pointing sensor gets a viewer's pointer, and the events that it sends are followed
unfoldable pub point_node : SceneView → Wiring → PointerView → Bool → Insides → CourseView
    → Concerned → CourseView
point_node scene wiring p before is c x =
    let a = met scene c.live.world x.sensor (pointer_at p before is x.tracked x.sensor) in
    send_replies wiring x.sensor (with_live c (with_answer c.live a)) a.replies

-- a viewer points: where its ray hits, which sensors the hit is inside of, which sensors the viewer
-- presses, where its ray meets the planes of its drags, and whether its button was down are fixed
-- first; then each sensor that is concerned gets the pointer in turn
unfoldable pub point : SceneView → Wiring → CourseView → PointerView → CourseView
point scene wiring c p =
    let is = insides scene c.live.world.fields p.ray in
    let before = is_down c.live.world p.who in
    fold (point_node scene wiring p before is) (with_live c (with_button c.live p))
    (concerned scene c.live.world p)

-- each time sensor ticks in turn, or a viewer points
abbrev pub happen : SceneView → Wiring → ℤ → CourseView → Cause → CourseView
happen scene wiring now c Clock = fold (tick_node wiring now) c (clocks_of (types_of scene))
happen scene wiring now c (Pointer p) = point scene wiring c p

-- an input comes to a world: no script has received an event yet
abbrev pub begun : SceneView → Scripted → StampedView → CourseView
begun scene w input = course (begin w.world input) (running (kinds_in scene) w.states)

-- the cause of the input goes to the nodes that it concerns, and then scripts settle
abbrev pub after_input : SceneView → Wiring → CourseView → StampedView → CourseView
after_input scene wiring c input = settle wiring (happen scene wiring input.time c input.cause)

-- the course of an input at its end
abbrev pub course_after : SceneView → List Route → Scripted → StampedView → CourseView
course_after scene routes w input =
    after_input scene (wiring_of scene routes) (begun scene w input) input

-- the world after an input
unfoldable pub apply : SceneView → List Route → Scripted → StampedView → Scripted
apply scene routes w input = ended (course_after scene routes w input)

-- the world after a list of inputs
abbrev pub world_after : SceneView → List Route → Scripted → List StampedView → Scripted
world_after scene routes w inputs = fold (apply scene routes) w inputs

-- -- input 0: all scripts are initialized, then their events are sent, and then they settle

-- before anything has happened: the scene's own fields, no sensor active or touched, no button
-- down, and nothing sent
abbrev pub untold : SceneView → WorldData
untold scene =
    record {
      applied = 0;
      last_time = pos 0;
      fields = state_of scene;
      sensors = replicate (length (state_of scene)) None;
      pointing = map start_of (types_of scene);
      buttons = replicate MAX_VIEWERS false;
      trace = [];
    }

-- the events that the node of a script is to send
pub record SendingView : Type 0 where
  pub node : ℕ
  pub replies : List SentEvent

-- scripts of which some are initialized, and the events that their nodes are to send
pub record Started : Type 0 where
  pub scripts : List SlotView
  pub sendings : List SendingView

abbrev pub start_one : Wiring → Started → ℕ → Started
start_one wiring s k =
    let a = act (ports_of wiring k) Initialize k s.scripts in
    record {
      scripts = a.scripts;
      sendings = s.sendings ++ record { node = node_of wiring k; replies = a.replies } ∷ [];
    }

-- all scripts, in number order
unfoldable pub started : Wiring → List SlotView → Started
started wiring scripts =
    fold (start_one wiring) (record { scripts = scripts; sendings = [] })
    (range_with_len 0 (length scripts))

-- the replies are sent in that order
abbrev pub sent_by_all : Wiring → CourseView → List SendingView → CourseView
sent_by_all wiring c sendings =
    fold (λ c (x : SendingView). send_replies wiring x.node c x.replies) c sendings

-- the course of input 0, at time 0, after the initialization of all scripts
abbrev pub opening_course : SceneView → List SlotView → CourseView
opening_course scene scripts = course (record { world = untold scene; sent = [] }) scripts

-- the world of a scene before any other input: the result of input 0
unfoldable pub opening : SceneView → List Route → Scripted
opening scene routes =
    let wiring = wiring_of scene routes in
    let s = started wiring (scripts_in scene) in
    ended (settle wiring (sent_by_all wiring (opening_course scene s.scripts) s.sendings))

-- the world of a scene and a list of inputs
abbrev pub world : SceneView → List Route → List StampedView → Scripted
world scene routes inputs = world_after scene routes (opening scene routes) inputs
