-- Pointing sensors send by their outputs alone.
use Rattle.std.proofs.Common.{◌≡◌, ◌≤◌, ◌+◌, arith, length, ℤ, ℕ, Bool, true, false, ◌&&◌, List, [], ◌∷◌, ◌++◌, refl, Option, Some, None}
use Rattle.std.specs.Prelude.{if◌then◌else◌, is_some, is_none, ◌||◌, slice_get}
use Rattle.x3d_values.specs.declared.fields.Fields.{Fields}
use Rattle.x3d_values.specs.declared.node_type.NodeType.{NodeType}
use Rattle.x3d_values.specs.declared.node_type.NodeType.TheVariants.{PlaneSensor, TouchSensor}
use Rattle.x3d_values.specs.declared.value.Value.{Value}
use Rattle.x3d_values.specs.declared.value.Value.TheVariants.{SFBool, SFVec3f}
use Rattle.x3d_values.specs.declared.vector.Vec3.{Vec3}
use Rattle.react_core.specs.declared.outbox.SentEvent.{SentEvent}
use Rattle.react_core.specs.Access.{is_kept, is_output, leave_by_outputs}
use Rattle.react_core.specs.Reaction.{keeps, nothing as none, reaction, reply}
use Rattle.sensor_core.specs.Touches.{TouchStateView, disable, point, over_replies, hit_replies, pointer, press_replies, time_replies, is_over, is_pressed_by, presses, releases, touch_after}
use Rattle.std.specs.Option.{option_map_or}
use Rattle.sensor_core.specs.declared.touch_numbers.TheConstants.{HIT_POINT_CHANGED, IS_OVER, IS_PRESSED}
use Rattle.scene_core.specs.declared.scene.End.{End}
use Rattle.scene_core.specs.Places.{is_pointing}
use Rattle.sensor_plane.specs.declared.fields.PlaneFields.{PlaneFields}
use Rattle.sensor_plane.specs.declared.meeting.SensorPointer.{SensorPointer}
use Rattle.sensor_plane.specs.declared.pointing.PointingState.{PointingState}
use Rattle.sensor_plane.specs.declared.pointing.PointingState.TheVariants as state
use Rattle.sensor_plane.specs.Meeting.{dragged_by, pointed, to_plane}
use Rattle.sensor_plane.specs.PlaneFields.{plane_fields_of}
use Rattle.sensor_plane.specs.Planes.{Plane}
use Rattle.sensor_plane.specs.Pointing.{forgotten, is_state_of}
use Rattle.sensor_plane.proofs.Sending.{disable_leaves as disabled_leaves, point_leaves as pointed_leaves}
use Rattle.cascade_world.specs.Answers.{forgotten_by, forgetting, reacting, touching, turns_off, meeting}
use Rattle.cascade_world.specs.declared.world.WorldData.{WorldData}
use Rattle.cascade_world.proofs.Senders.{reaction-leaves}

abbrev pub SentBy : NodeType → List SentEvent → Type 0
SentBy kind replies = leave_by_outputs kind replies ≡ true

abbrev SentByTouch : List SentEvent → Type 0
SentByTouch replies = SentBy TouchSensor replies

both : (a b : Bool) → (a && b) ≡ true → (a ≡ true) × (b ≡ true)
both true b h = (refl, h)
both false b h = cc

append-leaves : (kind : NodeType) (xs ys : List SentEvent) → SentBy kind xs → SentBy kind ys → SentBy kind (xs ++ ys)
append-leaves kind [] ys p q = q
append-leaves kind (x ∷ xs) ys p q =
    let (one, rest) = both (is_output kind x.field) (leave_by_outputs kind xs) p in
    rw one (append-leaves kind xs ys rest q)

leaves-append : (xs ys : List SentEvent) → SentByTouch xs → SentByTouch ys → SentByTouch (xs ++ ys)
leaves-append xs ys p q = append-leaves TouchSensor xs ys p q

leaves-if : (b : Bool) (xs ys : List SentEvent) → SentByTouch xs → SentByTouch ys → SentByTouch (if b then xs else ys)
leaves-if true xs ys p q = p
leaves-if false xs ys p q = q

over-leaves : (was is : Bool) → SentByTouch (over_replies was is)
over-leaves true true = refl
over-leaves true false = refl
over-leaves false true = refl
over-leaves false false = refl

hit-leaves : (touch : TouchStateView) (who : ℕ) (before down : Bool) (inside place : Option Vec3) → SentByTouch (hit_replies touch (pointer who before down inside) place)
hit-leaves touch who before down inside None = refl
hit-leaves touch who before down inside (Some point) =
    leaves-if (is_none touch.presser || is_pressed_by touch who) (reply HIT_POINT_CHANGED (SFVec3f point) ∷ []) [] refl refl

three-leave : (xs ys zs : List SentEvent) → SentByTouch xs → SentByTouch ys → SentByTouch zs → SentByTouch (xs ++ ys ++ zs)
three-leave xs ys zs p q r = leaves-append (xs ++ ys) zs (leaves-append xs ys p q) r

released-leaves : (place : Option Vec3) (t : ℤ) → SentByTouch (reply IS_PRESSED (SFBool false) ∷ time_replies place t)
released-leaves None t = refl
released-leaves (Some point) t = refl

press-leaves : (down up : Bool) (place : Option Vec3) (t : ℤ) →
    SentByTouch (if down then reply IS_PRESSED (SFBool true) ∷ [] else (if up then reply IS_PRESSED (SFBool false) ∷ time_replies place t else []))
press-leaves down up place t =
    leaves-if down (reply IS_PRESSED (SFBool true) ∷ []) _ refl (leaves-if up (reply IS_PRESSED (SFBool false) ∷ time_replies place t) [] (released-leaves place t) refl)

pub point-leaves : (touch : TouchStateView) (who : ℕ) (before down : Bool) (place : Option Vec3) (t : ℤ) → SentByTouch (point touch (pointer who before down place) t).replies
unfolding point
point-leaves touch who before down place t =
    let p = pointer who before down place in
    three-leave (over_replies (is_over touch) (is_over (touch_after touch p))) (hit_replies touch p place) (press_replies touch p t)
    (over-leaves (is_over touch) (is_over (touch_after touch p))) (hit-leaves touch who before down place place) (press-leaves (presses touch p) (releases touch p) place t)

pub disable-leaves : (touch : TouchStateView) → SentByTouch (disable touch).replies
unfolding disable
disable-leaves touch =
    leaves-append (if is_over touch then reply IS_OVER (SFBool false) ∷ [] else []) _
    (leaves-if (is_over touch) (reply IS_OVER (SFBool false) ∷ []) [] refl refl)
    (leaves-if (is_some touch.presser) (reply IS_PRESSED (SFBool false) ∷ []) [] refl refl)

-- ---- an event

reacting-leaves : (w : WorldData) (target : End) (v : Value) (kind : NodeType) (fields : Option Fields) → SentBy kind (reacting w target v kind fields).replies
reacting-leaves w target v kind None = refl
reacting-leaves w target v kind (Some fields) = reaction-leaves kind fields target.field v w.last_time

forgotten-leaves : (kind : NodeType) (s : PointingState) → is_state_of kind s ≡ true → SentBy kind (forgotten s).replies
forgotten-leaves kind state.NoSensor is = refl
forgotten-leaves TouchSensor (state.Touch touch) is = disable-leaves touch
forgotten-leaves PlaneSensor (state.Touch touch) is = absurd cc
forgotten-leaves _ (state.Touch touch) is = absurd cc
forgotten-leaves PlaneSensor (state.Plane plane) is = disabled_leaves plane
forgotten-leaves TouchSensor (state.Plane plane) is = absurd cc
forgotten-leaves _ (state.Plane plane) is = absurd cc

forgets-leave : (kind : NodeType) (s : Option PointingState) → SentBy kind (forgotten_by kind s)
forgets-leave kind None = refl
forgets-leave kind (Some s) = by (is_state_of kind s) refl
  where
    by : (b : Bool) → is_state_of kind s ≡ b → SentBy kind (if b then (forgotten s).replies else [])
    by true is = forgotten-leaves kind s is
    by false is = refl

pub touching-leaves : (w : WorldData) (target : End) (v : Value) (kind : NodeType) (fields : Option Fields) → SentBy kind (touching w target v kind fields).replies
touching-leaves w target v kind fields = off (turns_off kind target.field v)
  where
    off : (b : Bool) → SentBy kind (if b then forgetting w target.node kind (reacting w target v kind fields) (slice_get w.pointing target.node) else reacting w target v kind fields).replies
    off true =
        append-leaves kind (reacting w target v kind fields).replies (forgotten_by kind (slice_get w.pointing target.node)) (reacting-leaves w target v kind fields)
        (forgets-leave kind (slice_get w.pointing target.node))
    off false = reacting-leaves w target v kind fields

-- ---- a pointer

dragged-leaves : (plane : Plane) (fields : Fields) (at : SensorPointer) (values : Option PlaneFields) → SentBy PlaneSensor (dragged_by plane fields at values).replies
dragged-leaves plane fields at None = refl
dragged-leaves plane fields at (Some values) = pointed_leaves plane values (to_plane at)

met-leaves : (kind : NodeType) (s : PointingState) (fields : Fields) (at : SensorPointer) (t : ℤ) → is_state_of kind s ≡ true → SentBy kind (pointed s fields at t).replies
unfolding pointed
met-leaves kind state.NoSensor fields at t is = refl
met-leaves TouchSensor (state.Touch touch) fields at t is = point-leaves touch at.who at.before at.down at.place t
met-leaves PlaneSensor (state.Touch touch) fields at t is = absurd cc
met-leaves _ (state.Touch touch) fields at t is = absurd cc
met-leaves PlaneSensor (state.Plane plane) fields at t is = dragged-leaves plane fields at (plane_fields_of fields)
met-leaves TouchSensor (state.Plane plane) fields at t is = absurd cc
met-leaves _ (state.Plane plane) fields at t is = absurd cc

pub meeting-leaves : (w : WorldData) (node : ℕ) (at : SensorPointer) (kind : NodeType) (s : PointingState) (own : Option Fields) → is_state_of kind s ≡ true →
    SentBy kind (meeting w node at s own).replies
meeting-leaves w node at kind s None is = refl
meeting-leaves w node at kind s (Some fields) is = met-leaves kind s fields at w.last_time is

-- ---- how many they are

kept : (fields : Fields) (input : ℕ) (v : Value) (b : Bool) → length (if b then keeps fields input v else none fields).replies ≤ 1
kept fields input v true = omega arith
kept fields input v false = omega arith

-- a pointing sensor answers an event by one reply at most
pub few-replies : (kind : NodeType) (fields : Option Fields) (input : ℕ) (v : Value) (t : ℤ) → is_pointing kind ≡ true →
    length (option_map_or (λ (f : Fields). (reaction kind f input v t).replies) fields []) ≤ 1
unfolding reaction
few-replies kind None input v t is = omega arith
few-replies TouchSensor (Some fields) input v t is = kept fields input v (is_kept TouchSensor input v)
few-replies PlaneSensor (Some fields) input v t is = kept fields input v (is_kept PlaneSensor input v)
few-replies _ (Some fields) input v t is = absurd cc

pub few-room : (replies : List SentEvent) → length replies ≤ 1 → length replies + 2 ≤ 5
few-room replies few = omega arith
