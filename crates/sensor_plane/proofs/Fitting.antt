-- States of PlaneSensors in their ranges, and their parts.
use Rattle.std.proofs.Common.{◌≡◌, ◌∙◌, refl, sym, ap, ℕ, ◌<◌, ◌^◌, ◌==◌, ℤ, pos, neg_ℤ, ◌≤ℤ◌, int_le, unsigned_abs, IsTrue, Bool, true, false, Option, Some, None, length-set, if◌then◌else◌, arith}
use Rattle.std.proofs.lemmas.Bool.{cond-true, and_from, and_parts, leb-true, le-leb}
use Rattle.std.proofs.lemmas.Int.{ints, clamps}
use Rattle.std.specs.Int.{int_min, int_max}
use Rattle.std.specs.Prelude.{is_some}
use Rattle.x3d_values.specs.declared.ranges.TheConstants.{MAX_VIEWERS}
use Rattle.x3d_values.specs.declared.vector.Vec3.{Vec3}
use Rattle.x3d_values.specs.Ranges.{coordinate_fits, coordinates_fit, is_viewer}
use Rattle.sensor_core.specs.Parts.{number_of, over_of}
use Rattle.sensor_plane.specs.declared.drag.Drag.{Drag}
use Rattle.sensor_plane.specs.declared.fields.PlaneFields.{PlaneFields}
use Rattle.sensor_plane.specs.declared.pointer.Contact.{Contact}
use Rattle.sensor_plane.specs.declared.pointer.PlanePointer.{PlanePointer}
use Rattle.sensor_plane.specs.PlaneParts.{AreFitting, DraggedPlanesFit, PartsArePlanes, PlanesHaveOneParts, contact_fits, drag_fits, parts_of_plane, plane_of_parts}
use Rattle.sensor_plane.specs.Planes.{Dragged, Plane, begun, clamped, drag_at, drag_from, dragged, ended, gone_on, point, presses, shifted, translation}
use Rattle.sensor_plane.proofs.Sets.{number_back, over_back}

-- ---- parts

pub are_planes : PartsArePlanes
unfolding parts_of_plane plane_of_parts
are_planes plane f =
    cond-true (drag_fits plane.drag) (Some (record { over = over_of (number_of plane.over); drag = plane.drag })) None f.drag
    ∙ ap (λ o. Some (record { over = o; drag = plane.drag })) (over_back plane.over f.viewers)

one_parts : (over : ℕ) (drag : Option Drag) (fits : Bool) (plane : Plane) → over < 2 ^ MAX_VIEWERS → (if fits then Some (record { over = over_of over; drag = drag }) else None) ≡ Some plane → parts_of_plane plane ≡ record { over = over; drag = drag }
unfolding parts_of_plane
one_parts over drag true plane small is =
    let one : record { over = over_of over; drag = drag } ≡ plane = cc in
    ap parts_of_plane (sym one) ∙ ap (λ n. record { over = n; drag = drag }) (number_back over small)
one_parts over drag false plane small is = absurd cc

pub have_one_parts : PlanesHaveOneParts
unfolding plane_of_parts
have_one_parts parts plane small is = one_parts parts.over parts.drag (drag_fits parts.drag) plane small is

-- ---- ranges

near : (z : ℤ) → neg_ℤ (pos 1000000000000000) ≤ℤ z → z ≤ℤ pos 1000000000000000 → coordinate_fits z ≡ true
near z low high = le-leb (unsigned_abs z) (10 ^ 15) (omega (arith, ints))

pub record IsNear (z : ℤ) : Type 0 where
  pub low : neg_ℤ (pos 1000000000000000) ≤ℤ z
  pub high : z ≤ℤ pos 1000000000000000

near_from : (z : ℤ) → coordinate_fits z ≡ true → IsNear z
near_from z fits =
    let small = leb-true (unsigned_abs z) (10 ^ 15) fits in
    record { low = omega (arith, ints); high = omega (arith, ints) }

shifted_near : (offset start at : ℤ) → IsNear (shifted offset start at)
shifted_near offset start at = record { low = omega (arith, ints, clamps); high = omega (arith, ints, clamps) }

clamped_near : (low high at : ℤ) (b : Bool) → IsNear low → IsNear high → IsNear at → IsNear (if b then int_max low (int_min at high) else at)
clamped_near low high at true l h a =
    let p = l.low in
    let q = l.high in
    let r = h.low in
    let s = h.high in
    let t = a.low in
    let u = a.high in
    record { low = omega (arith, ints, clamps); high = omega (arith, ints, clamps) }
clamped_near low high at false l h a = a

axis_fits : (low high offset start at : ℤ) → coordinate_fits low ≡ true → coordinate_fits high ≡ true → coordinate_fits (clamped low high (shifted offset start at)) ≡ true
axis_fits low high offset start at l h =
    let n = clamped_near low high (shifted offset start at) (int_le low high) (near_from low l) (near_from high h) (shifted_near offset start at) in
    near (clamped low high (shifted offset start at)) n.low n.high

pub translation_fits : (fields : PlaneFields) (start at : Vec3) → AreFitting fields → coordinates_fit (translation fields start at) ≡ true
unfolding translation
translation_fits fields start at f =
    let min = and_parts _ _ f.min in
    let max = and_parts _ _ f.max in
    let z = shifted_near fields.offset.z start.z at.z in
    and_from _ _ (axis_fits fields.min_position.x fields.max_position.x fields.offset.x start.x at.x min.0 max.0)
    (and_from _ _ (axis_fits fields.min_position.y fields.max_position.y fields.offset.y start.y at.y min.1 max.1) (near (shifted fields.offset.z start.z at.z) z.low z.high))

pub record LeavesDrag (d : Dragged) : Type 0 where
  pub drag : IsTrue (drag_fits d.drag)
  pub fields : AreFitting d.fields

either : (b : Bool) (x y : Dragged) → LeavesDrag x → LeavesDrag y → LeavesDrag (if b then x else y)
either true x y p q = p
either false x y p q = q

begun_fits : (fields : PlaneFields) (pointer : PlanePointer) (contact : Option Contact) → AreFitting fields → is_viewer pointer.who ≡ true → contact_fits contact ≡ true → LeavesDrag (begun fields pointer contact)
begun_fits fields pointer None f v c = record { drag = refl; fields = f }
begun_fits fields pointer (Some contact) f v c =
    either (presses pointer) (record { drag = Some (drag_from fields pointer.who contact); fields = fields; replies = _ }) (record { drag = None; fields = fields; replies = _ })
    (let parts = and_parts _ _ c in record { drag = and_from _ _ (and_from _ _ v parts.1) (and_from _ _ parts.0 f.offset); fields = f })
    (record { drag = refl; fields = f })

kept_fits : (fields : PlaneFields) (drag : Drag) (tracked : Option Vec3) → AreFitting fields → drag_fits (Some drag) ≡ true → drag_fits (Some (drag_at fields drag tracked)) ≡ true
kept_fits fields drag None f d = d
kept_fits fields drag (Some at) f d =
    let parts = and_parts _ _ d in
    let points = and_parts _ _ parts.1 in
    and_from _ _ parts.0 (and_from _ _ points.0 (translation_fits fields drag.start at f))

ended_fits : (fields : PlaneFields) (drag : Drag) → AreFitting fields → drag_fits (Some drag) ≡ true → LeavesDrag (ended fields drag)
ended_fits fields drag f d =
    let parts = and_parts _ _ d in
    let points = and_parts _ _ parts.1 in
    either fields.auto_offset _ _
    (record { drag = refl; fields = record { max = f.max; min = f.min; offset = points.1 } })
    (record { drag = refl; fields = f })

dragged_fits : (fields : PlaneFields) (pointer : PlanePointer) (drag : Option Drag) → AreFitting fields → is_viewer pointer.who ≡ true → contact_fits pointer.contact ≡ true → drag_fits drag ≡ true → LeavesDrag (dragged fields pointer drag)
dragged_fits fields pointer None f v c d = begun_fits fields pointer pointer.contact f v c
dragged_fits fields pointer (Some drag) f v c d =
    either (pointer.who == drag.presser) (gone_on fields pointer drag) _
    (either pointer.down _ (ended fields drag) (record { drag = kept_fits fields drag pointer.tracked f d; fields = f }) (ended_fits fields drag f d))
    (record { drag = d; fields = f })

pub dragged_planes_fit : DraggedPlanesFit
unfolding point
dragged_planes_fit plane fields pointer p f v c =
    let d = dragged_fits fields pointer plane.drag f v c p.drag in
    record {
      plane = record { viewers = length-set plane.over pointer.who (is_some pointer.contact) ∙ p.viewers; drag = d.drag };
      fields = d.fields;
    }
