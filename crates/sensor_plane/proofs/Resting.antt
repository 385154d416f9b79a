-- A pointing sensor at rest that a pointer passes does nothing.
use Rattle.std.proofs.Common.{◌≡◌, ◌∙◌, ap, sym, refl, get_or, ℕ, zero, suc, ℤ, Bool, true, false, List, [], ◌∷◌, ◌++◌, Option, Some, None}
use Rattle.std.proofs.lemmas.List.{set-get_or}
use Rattle.std.proofs.lemmas.Option.{get_or_from_slice_get}
use Rattle.std.specs.Prelude.{◌&&◌, is_none, not, slice_get, slice_set}
use Rattle.std.specs.List.{list_any}
use Rattle.std.specs.Option.{option_and_then}
use Rattle.x3d_values.specs.declared.fields.Fields.{Fields}
use Rattle.x3d_values.specs.declared.value.Value.{Value}
use Rattle.x3d_values.specs.declared.value.Value.TheVariants as value
use Rattle.x3d_values.specs.declared.vector.Vec3.{Vec3}
use Rattle.sensor_core.specs.Touches.{TouchStateView as Touches, Touched, is_over as touch_over, point as touch_point, pointer, change_replies, over_replies}
use Rattle.sensor_plane.specs.declared.fields.PlaneFields.{PlaneFields}
use Rattle.sensor_plane.specs.declared.meeting.SensorPointer.{SensorPointer}
use Rattle.sensor_plane.specs.declared.numbers.TheConstants.{AUTO_OFFSET, IS_OVER, MAX_POSITION, MIN_POSITION, OFFSET}
use Rattle.sensor_plane.specs.declared.pointer.PlanePointer.{PlanePointer}
use Rattle.sensor_plane.specs.declared.pointing.PointingState.{PointingState}
use Rattle.sensor_plane.specs.declared.pointing.PointingState.TheVariants.{NoSensor, Touch, Plane}
use Rattle.sensor_plane.specs.Meeting.{PlaneMet, dragged_by, pointed, unmet}
use Rattle.sensor_plane.specs.PlaneFields.{pair_at, plane_fields_of, triple_at, triple_of, truth_at, with_offset}
use Rattle.sensor_plane.specs.Planes.{Plane as Planes, PlanePointed, is_over as plane_over, point as plane_point}
use Rattle.sensor_plane.specs.Pointing.{is_resting}

-- ---- sets of viewers

none-over : (over : List Bool) (i : ℕ) → list_any (λ (o : Bool). o) over ≡ false → get_or over i false ≡ false
none-over [] i h = refl
none-over (true ∷ over) i h = cc
none-over (false ∷ over) zero h = refl
none-over (false ∷ over) (suc i) h = none-over over i h

over-same : (over : List Bool) (who : ℕ) → list_any (λ (o : Bool). o) over ≡ false → slice_set over who false ≡ over
over-same over who h = ap (λ (b : Bool). slice_set over who b) (sym (none-over over who h)) ∙ set-get_or over who false

abbrev free : List Bool → Touches
free over = record { over = over; presser = None }

abbrev seen : List Bool → Bool → Touched
seen over was = record { touch = free over; replies = over_replies was (list_any (λ (o : Bool). o) over) ++ [] ++ [] }

passing : (over : List Bool) (who : ℕ) (before down : Bool) (t : ℤ) →
    touch_point (free over) (pointer who before down None) t ≡ seen (slice_set over who false) (list_any (λ (o : Bool). o) over)
unfolding touch_point
passing over who true true t = refl
passing over who true false t = refl
passing over who false true t = refl
passing over who false false t = refl

passing-by : (over : List Bool) (who : ℕ) (before down : Bool) (t : ℤ) → list_any (λ (o : Bool). o) over ≡ false →
    touch_point (free over) (pointer who before down None) t ≡ record { touch = free over; replies = [] }
passing-by over who before down t h =
    passing over who before down t
    ∙ ap (λ (o : List Bool). seen o (list_any (λ (b : Bool). b) over)) (over-same over who h)
    ∙ ap (λ (b : Bool). record { touch = free over; replies = over_replies b b ++ [] ++ [] }) h

-- ---- a TouchSensor

alone-parts : (a : Bool) (presser : Option ℕ) → (not a && is_none presser) ≡ true → (a ≡ false) × (presser ≡ None)
alone-parts true presser h = cc
alone-parts false None h = (refl, refl)
alone-parts false (Some p) h = cc

touch-rests : (touch : Touches) (who : ℕ) (before down : Bool) (t : ℤ) → (not (touch_over touch) && is_none touch.presser) ≡ true →
    touch_point touch (pointer who before down None) t ≡ record { touch = touch; replies = [] }
touch-rests touch who before down t alone =
    let parts = alone-parts (touch_over touch) touch.presser alone in
    let shown : touch ≡ free touch.over = ap (λ (o : Option ℕ). record touch { presser = o }) parts.1 in
    ap (λ (x : Touches). touch_point x (pointer who before down None) t) shown
    ∙ passing-by touch.over who before down t parts.0
    ∙ ap (λ (x : Touches). let r : Touched = record { touch = x; replies = [] } in r) (sym shown)

-- ---- a PlaneSensor

abbrev free_plane : List Bool → Planes
free_plane over = record { over = over; drag = None }

abbrev passes_by : ℕ → Bool → Bool → Option Vec3 → PlanePointer
passes_by who before down tracked = record { who = who; before = before; down = down; contact = None; tracked = tracked }

abbrev left : List Bool → Bool → PlaneFields → PlanePointed
left over was values = record { plane = free_plane over; fields = values; replies = change_replies IS_OVER was (list_any (λ (o : Bool). o) over) ++ [] }

plane-passes : (over : List Bool) (values : PlaneFields) (who : ℕ) (before down : Bool) (tracked : Option Vec3) →
    plane_point (free_plane over) values (passes_by who before down tracked) ≡ left (slice_set over who false) (list_any (λ (o : Bool). o) over) values
unfolding plane_point
plane-passes over values who before down tracked = refl

plane-rests : (plane : Planes) (values : PlaneFields) (who : ℕ) (before down : Bool) (tracked : Option Vec3) → (not (plane_over plane) && is_none plane.drag) ≡ true →
    plane_point plane values (passes_by who before down tracked) ≡ record { plane = plane; fields = values; replies = [] }
plane-rests plane values who before down tracked alone = rest (plane_over plane) plane.drag refl refl alone
  where
    rest : (was : Bool) (drag : Option _) → plane_over plane ≡ was → plane.drag ≡ drag → (not was && is_none drag) ≡ true →
        plane_point plane values (passes_by who before down tracked) ≡ record { plane = plane; fields = values; replies = [] }
    rest true drag over none h = cc
    rest false (Some d) over none h = cc
    rest false None over none h =
        let shown : plane ≡ free_plane plane.over = ap (λ d. record plane { drag = d }) none in
        ap (λ (p : Planes). plane_point p values (passes_by who before down tracked)) shown
        ∙ plane-passes plane.over values who before down tracked
        ∙ ap (λ (o : List Bool). left o (list_any (λ (b : Bool). b) plane.over) values) (over-same plane.over who over)
        ∙ ap (λ (b : Bool). let r : PlanePointed = record { plane = free_plane plane.over; fields = values; replies = change_replies IS_OVER b b ++ [] } in r) over
        ∙ ap (λ (p : Planes). let r : PlanePointed = record { plane = p; fields = values; replies = [] } in r) (sym shown)

-- ---- the offset that is read is written back

some_is : {X : Type 0} (a b : X) → Some a ≡ Some b → a ≡ b
some_is a b h = cc

held-as : (v : Value) (p : Vec3) → triple_of v ≡ Some p → v ≡ value.SFVec3f p
held-as (value.SFVec3f q) p h = ap value.SFVec3f (some_is q p h)
held-as _ p h = absurd cc

held-at : (o : Option (Option Value)) (p : Vec3) → option_and_then triple_of (option_and_then (λ (v : Option Value). v) o) ≡ Some p → o ≡ Some (Some (value.SFVec3f p))
held-at None p h = absurd cc
held-at (Some None) p h = absurd cc
held-at (Some (Some v)) p h = ap (λ (u : Value). Some (Some u)) (held-as v p h)

offset-held : (fields : Fields) (p : Vec3) → triple_at fields OFFSET ≡ Some p → slice_get fields.values OFFSET ≡ Some (Some (value.SFVec3f p))
unfolding triple_at
offset-held fields p h = held-at (slice_get fields.values OFFSET) p h

same-value : (fields : Fields) (values : PlaneFields) → triple_at fields OFFSET ≡ Some values.offset → with_offset fields values ≡ fields
same-value fields values h =
    let here = offset-held fields values.offset h in
    let x : Option Value = Some (value.SFVec3f values.offset) in
    ap (λ (vs : List (Option Value)). record fields { values = vs })
    (ap (λ y. slice_set fields.values OFFSET y) (sym (get_or_from_slice_get fields.values OFFSET x x here)) ∙ set-get_or fields.values OFFSET x)

read-offset : (auto : Option Bool) (max min : Option _) (offset : Option Vec3) (values : PlaneFields) →
    option_and_then (λ (a : Bool). option_and_then (λ x. option_and_then (λ n. option_and_then (λ (o : Vec3).
    let r : PlaneFields = record { auto_offset = a; max_position = x; min_position = n; offset = o } in Some r) offset) min) max) auto ≡ Some values → offset ≡ Some values.offset
read-offset None max min offset values h = absurd cc
read-offset (Some a) None min offset values h = absurd cc
read-offset (Some a) (Some x) None offset values h = absurd cc
read-offset (Some a) (Some x) (Some n) None values h = absurd cc
read-offset (Some a) (Some x) (Some n) (Some o) values h =
    ap (λ (r : PlaneFields). Some r.offset) (some_is (let r : PlaneFields = record { auto_offset = a; max_position = x; min_position = n; offset = o } in r) values h)

offset-back : (fields : Fields) (values : PlaneFields) → plane_fields_of fields ≡ Some values → with_offset fields values ≡ fields
unfolding plane_fields_of
offset-back fields values h =
    same-value fields values (read-offset (truth_at fields AUTO_OFFSET) (pair_at fields MAX_POSITION) (pair_at fields MIN_POSITION) (triple_at fields OFFSET) values h)

-- ---- both

abbrev passing_at : ℕ → Bool → Bool → Option Vec3 → SensorPointer
passing_at who before down tracked = record { who = who; before = before; down = down; place = None; contact = None; tracked = tracked }

dragged-rests : (plane : Planes) (fields : Fields) (who : ℕ) (before down : Bool) (tracked : Option Vec3) (o : Option PlaneFields) → plane_fields_of fields ≡ o →
    (not (plane_over plane) && is_none plane.drag) ≡ true → dragged_by plane fields (passing_at who before down tracked) o ≡ unmet (Plane plane) fields
dragged-rests plane fields who before down tracked None read alone = refl
dragged-rests plane fields who before down tracked (Some values) read alone =
    ap (λ (d : PlanePointed). let r : PlaneMet = record { state = Plane d.plane; fields = with_offset fields d.fields; replies = d.replies } in r) (plane-rests plane values who before down tracked alone)
    ∙ ap (λ (f : Fields). unmet (Plane plane) f) (offset-back fields values read)

pub rests : (state : PointingState) (fields : Fields) (who : ℕ) (before down : Bool) (tracked : Option Vec3) (t : ℤ) → is_resting state ≡ true →
    pointed state fields (passing_at who before down tracked) t ≡ unmet state fields
unfolding pointed
rests NoSensor fields who before down tracked t h = refl
rests (Touch touch) fields who before down tracked t h =
    ap (λ (x : Touched). let r : PlaneMet = record { state = Touch x.touch; fields = fields; replies = x.replies } in r) (touch-rests touch who before down t h)
rests (Plane plane) fields who before down tracked t h = dragged-rests plane fields who before down tracked (plane_fields_of fields) refl h
