-- What a PlaneSensor sends passes each test that passes values of its fields.
use Rattle.std.proofs.Common.{◌≡◌, refl, ◌==◌, Bool, true, false, IsTrue, List, [], ◌∷◌, ◌++◌, Option, Some, None, if◌then◌else◌}
use Rattle.std.specs.List.{list_all, list_any}
use Rattle.std.specs.Option.{option_map_or}
use Rattle.std.specs.Prelude.{is_some}
use Rattle.std.proofs.lemmas.Bool.{and_from, and_parts}
use Rattle.x3d_values.specs.declared.node_type.NodeType.TheVariants.{PlaneSensor}
use Rattle.x3d_values.specs.declared.value.Value.TheVariants.{SFBool, SFVec3f}
use Rattle.x3d_values.specs.declared.vector.Vec3.{Vec3}
use Rattle.x3d_values.specs.Ranges.{coordinates_fit}
use Rattle.react_core.specs.declared.outbox.SentEvent.{SentEvent}
use Rattle.react_core.specs.Access.{is_output, leave_by_outputs}
use Rattle.react_core.specs.Reaction.{reply}
use Rattle.sensor_core.specs.Touches.{change_replies}
use Rattle.sensor_plane.specs.declared.drag.Drag.{Drag}
use Rattle.sensor_plane.specs.declared.fields.PlaneFields.{PlaneFields}
use Rattle.sensor_plane.specs.declared.numbers.TheConstants.{IS_ACTIVE, IS_OVER, OFFSET, TRACK_POINT_CHANGED, TRANSLATION_CHANGED}
use Rattle.sensor_plane.specs.declared.pointer.Contact.{Contact}
use Rattle.sensor_plane.specs.declared.pointer.PlanePointer.{PlanePointer}
use Rattle.sensor_plane.specs.PlaneParts.{AreFitting, SentValuesFit, drag_fits, reply_fits}
use Rattle.sensor_plane.specs.Planes.{Dragged, Plane, begun, disable, dragged, ended, gone_on, is_over, over_after, point, presses, track_replies, translation}
use Rattle.sensor_plane.proofs.Fitting.{translation_fits}

-- a test that passes what may be sent: truth values, and points for which `is_near` holds
pub record Passes (is_near : Vec3 → Bool) (test : SentEvent → Bool) : Type 0 where
  pub is_over : (b : Bool) → test (reply IS_OVER (SFBool b)) ≡ true
  pub is_active : (b : Bool) → test (reply IS_ACTIVE (SFBool b)) ≡ true
  pub track_point : (p : Vec3) → is_near p ≡ true → test (reply TRACK_POINT_CHANGED (SFVec3f p)) ≡ true
  pub translation : (p : Vec3) → is_near p ≡ true → test (reply TRANSLATION_CHANGED (SFVec3f p)) ≡ true
  pub offset : (p : Vec3) → is_near p ≡ true → test (reply OFFSET (SFVec3f p)) ≡ true

all_append : (test : SentEvent → Bool) (xs ys : List SentEvent) → list_all test xs ≡ true → list_all test ys ≡ true → list_all test (xs ++ ys) ≡ true
all_append test [] ys f g = g
all_append test (x ∷ xs) ys f g =
    let parts = and_parts (test x) (list_all test xs) f in
    and_from _ _ parts.0 (all_append test xs ys parts.1 g)

all_if : (test : SentEvent → Bool) (b : Bool) (xs ys : List SentEvent) → list_all test xs ≡ true → list_all test ys ≡ true → list_all test (if b then xs else ys) ≡ true
all_if test true xs ys f g = f
all_if test false xs ys f g = g

-- ---- where the drag's last translation is near, each further one, and where the ray meets its plane

module _ (is_near : Vec3 → Bool) (test : SentEvent → Bool) (passes : Passes is_near test) where
  abbrev pub Sent : List SentEvent → Type 0
  Sent replies = list_all test replies ≡ true

  over_sent : (was is : Bool) → Sent (change_replies IS_OVER was is)
  over_sent true true = refl
  over_sent true false = and_from _ _ (passes.is_over false) refl
  over_sent false true = and_from _ _ (passes.is_over true) refl
  over_sent false false = refl

  active_sent : (b : Bool) → Sent (reply IS_ACTIVE (SFBool b) ∷ [])
  active_sent b = and_from _ _ (passes.is_active b) refl

  abbrev pub LastIsNear : Option Drag → Type 0
  LastIsNear drag = option_map_or (λ (d : Drag). is_near d.last) drag true ≡ true

  abbrev pub TrackedIsNear : Option Vec3 → Type 0
  TrackedIsNear tracked = option_map_or is_near tracked true ≡ true

  either : (b : Bool) (x y : Dragged) → Sent x.replies → Sent y.replies → Sent (if◌then◌else◌ {A = Dragged} b x y).replies
  either true x y p q = p
  either false x y p q = q

  begun_sent : (fields : PlaneFields) (pointer : PlanePointer) (contact : Option Contact) → Sent (begun fields pointer contact).replies
  begun_sent fields pointer None = refl
  begun_sent fields pointer (Some contact) = either (presses pointer) _ _ (active_sent true) refl

  ended_sent : (fields : PlaneFields) (drag : Drag) → is_near drag.last ≡ true → Sent (ended fields drag).replies
  ended_sent fields drag near =
      either fields.auto_offset _ _
      (and_from _ _ (passes.is_active false) (and_from _ _ (passes.offset drag.last near) refl))
      (active_sent false)

  module _ (fields : PlaneFields) (moves : (start at : Vec3) → is_near (translation fields start at) ≡ true) where
    track_sent : (drag : Drag) (tracked : Option Vec3) → TrackedIsNear tracked → Sent (track_replies fields drag tracked)
    track_sent drag None near = refl
    track_sent drag (Some at) near =
        and_from _ _ (passes.track_point at near)
        (and_from _ _ (passes.translation (translation fields drag.start at) (moves drag.start at)) refl)

    dragged_sent : (pointer : PlanePointer) (drag : Option Drag) → LastIsNear drag → TrackedIsNear pointer.tracked → Sent (dragged fields pointer drag).replies
    dragged_sent pointer None last near = begun_sent fields pointer pointer.contact
    dragged_sent pointer (Some drag) last near =
        either (pointer.who == drag.presser) (gone_on fields pointer drag) _
        (either pointer.down _ (ended fields drag) (track_sent drag pointer.tracked near) (ended_sent fields drag last))
        refl

    pub point_sent : (plane : Plane) (pointer : PlanePointer) → LastIsNear plane.drag → TrackedIsNear pointer.tracked → Sent (point plane fields pointer).replies
    unfolding point
    point_sent plane pointer last near =
        all_append test (change_replies IS_OVER (is_over plane) (list_any (λ over. over) (over_after plane pointer))) (dragged fields pointer plane.drag).replies
        (over_sent (is_over plane) (list_any (λ over. over) (over_after plane pointer))) (dragged_sent pointer plane.drag last near)

  pub disable_sent : (plane : Plane) → Sent (disable plane).replies
  unfolding disable
  disable_sent plane =
      all_append test (if is_over plane then reply IS_OVER (SFBool false) ∷ [] else []) (if is_some plane.drag then reply IS_ACTIVE (SFBool false) ∷ [] else [])
      (all_if test (is_over plane) (reply IS_OVER (SFBool false) ∷ []) [] (and_from _ _ (passes.is_over false) refl) refl)
      (all_if test (is_some plane.drag) (reply IS_ACTIVE (SFBool false) ∷ []) [] (active_sent false) refl)

-- ---- all leaves by outputs

abbrev any_point : Vec3 → Bool
any_point p = true

outputs : Passes any_point (λ (r : SentEvent). is_output PlaneSensor r.field)
outputs = record {
  is_over = λ b. refl;
  is_active = λ b. refl;
  track_point = λ p h. refl;
  translation = λ p h. refl;
  offset = λ p h. refl;
}

any_last : (drag : Option Drag) → LastIsNear any_point (λ (r : SentEvent). is_output PlaneSensor r.field) outputs drag
any_last None = refl
any_last (Some drag) = refl

any_tracked : (tracked : Option Vec3) → TrackedIsNear any_point (λ (r : SentEvent). is_output PlaneSensor r.field) outputs tracked
any_tracked None = refl
any_tracked (Some at) = refl

pub point_leaves : (plane : Plane) (fields : PlaneFields) (pointer : PlanePointer) → leave_by_outputs PlaneSensor (point plane fields pointer).replies ≡ true
point_leaves plane fields pointer =
    point_sent any_point (λ (r : SentEvent). is_output PlaneSensor r.field) outputs fields (λ start at. refl) plane pointer (any_last plane.drag) (any_tracked pointer.tracked)

pub disable_leaves : (plane : Plane) → leave_by_outputs PlaneSensor (disable plane).replies ≡ true
disable_leaves plane = disable_sent any_point (λ (r : SentEvent). is_output PlaneSensor r.field) outputs plane

-- ---- values are of their fields' types, and in their ranges

pub last_fits : (drag : Option Drag) → drag_fits drag ≡ true → option_map_or (λ (d : Drag). coordinates_fit d.last) drag true ≡ true
last_fits None h = refl
last_fits (Some drag) h = (and_parts _ _ (and_parts _ _ h).1).1

typed : Passes coordinates_fit reply_fits
typed = record {
  is_over = λ b. refl;
  is_active = λ b. refl;
  track_point = λ p h. h;
  translation = λ p h. h;
  offset = λ p h. h;
}

-- each test that passes points in their range
pub point_passes : (test : SentEvent → Bool) → Passes coordinates_fit test → (plane : Plane) (fields : PlaneFields) (pointer : PlanePointer) → IsTrue (drag_fits plane.drag) → AreFitting fields
    → option_map_or coordinates_fit pointer.tracked true ≡ true → list_all test (point plane fields pointer).replies ≡ true
point_passes test passes plane fields pointer drag f near =
    point_sent coordinates_fit test passes fields (λ start at. translation_fits fields start at f) plane pointer (last_fits plane.drag drag) near

pub sent_values_fit : SentValuesFit
sent_values_fit plane fields pointer p f near = point_passes reply_fits typed plane fields pointer p.drag f near
