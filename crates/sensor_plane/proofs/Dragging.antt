-- What holds of drags.
use Rattle.std.proofs.Common.{◌≡◌, ◌∙◌, sym, ap, subst, ◌==◌, ℤ, pos, neg_ℤ, int_le, true, [], Some, arith}
use Rattle.std.proofs.lemmas.Bool.{cond-true, cond-false}
use Rattle.std.proofs.lemmas.Int.{ints, clamps}
use Rattle.std.specs.Int.{int_min, int_max}
use Rattle.x3d_values.specs.declared.vector.Vec3.{Vec3}
use Rattle.sensor_plane.specs.Planes.{DragsGoByTheirPresser, TranslationsAreWithin, Unmoved, IsBetween, gone_on, shifted, translation, within}

pub goes_by_its_presser : DragsGoByTheirPresser
goes_by_its_presser fields pointer drag other =
    cond-false (pointer.who == drag.presser) (gone_on fields pointer drag) (record { drag = Some drag; fields = fields; replies = [] }) other

pub is_within : TranslationsAreWithin
is_within low high at h =
    let is : int_le low high ≡ true = grind (arith, ints) in
    subst (λ z. IsBetween low z high) (sym (cond-true (int_le low high) (int_max low (int_min at high)) at is)) (record {
      above = omega (arith, ints, clamps);
      below = omega (arith, ints, clamps);
    })

at_start : (offset start : ℤ) → IsBetween (neg_ℤ (pos 1000000000000000)) offset (pos 1000000000000000) → shifted offset start start ≡ offset
at_start offset start h =
    let low = h.above in
    let high = h.below in
    omega (arith, ints, clamps)

pub is_unmoved : Unmoved
unfolding translation
is_unmoved fields start hx hy hz h =
    let make : ℤ → ℤ → ℤ → Vec3 = λ a b c. record { x = a; y = b; z = c } in
    let o = fields.offset in
    let sx = shifted o.x start.x start.x in
    let sy = shifted o.y start.y start.y in
    let sz = shifted o.z start.z start.z in
    ap (within fields)
    (ap (λ a. make a sy sz) (at_start o.x start.x hx)
    ∙ (ap (λ b. make o.x b sz) (at_start o.y start.y hy) ∙ ap (λ c. make o.x o.y c) (at_start o.z start.z hz)))
    ∙ h
