-- A point that is taken inwards and outwards again.
use Rattle.std.proofs.Common.{◌≡◌, ◌∙◌, sym, refl, ap, subst, ℕ, zero, suc, ◌+◌, ◌*◌, ◌/◌, ◌%◌, ◌<◌, ◌≤◌, ℤ, pos, negsuc, neg_ℤ, ◌+ℤ◌, ◌-ℤ◌, ◌*ℤ◌, ◌<ℤ◌, ◌≤ℤ◌, int_lt, List, [], ◌∷◌, Option, Some, None, slice_get, true, false, if◌then◌else◌, arith}
use Rattle.std.proofs.lemmas.Bool.{cond-true, cond-false}
use Rattle.std.proofs.lemmas.Int.{ints, clamps}
use Rattle.std.proofs.Math.IntN.{*ℤ_comm, *ℤ-negsuc}
use Rattle.std.specs.Int.{int_div_euclid}
use Rattle.x3d_values.specs.declared.fields.Fields.{Fields}
use Rattle.x3d_values.specs.declared.node_type.NodeType.{NodeType}
use Rattle.x3d_values.specs.declared.node_type.NodeType.TheVariants.{Transform}
use Rattle.x3d_values.specs.declared.vector.Vec3.{Vec3}
use Rattle.scene_core.specs.Scene.{SceneView, type_at}
use Rattle.pick_core.specs.Local.{back_along, moved_back, quotient}
use Rattle.pick_core.specs.Looks.{motion_of}
use Rattle.pick_core.specs.Motion.{along_of, clamped, moved}
use Rattle.pick_core.specs.TrackAgain.{AllDivide, Divides, DividesBy, DividesPoint, IsNear, OutwardsAgain, ScalesDivide, TurnedScalesReturn, away}
use Rattle.pick_core.specs.Paths.{inside, inward, is_transform_as, outside, outward}

-- ---- a coordinate

whole : (z q : ℤ) → z ≡ q *ℤ pos 1000000 → int_div_euclid z (pos 1000000) ≡ q
whole (pos a) q e = omega (arith, ints, e)
whole (negsuc a) q e = omega (arith, ints, e)

unclamped : (z : ℤ) → IsNear z → clamped z ≡ z
unclamped z near =
    let low = near.low in
    let high = near.high in
    omega (arith, ints, clamps)

turned : (a b : ℤ) → a *ℤ b ≡ b *ℤ a
turned a b = *ℤ_comm a b

from_center : (c k : ℤ) → c +ℤ k -ℤ c ≡ k
from_center c k = omega (arith, ints)

put_together : (t c at : ℤ) → t +ℤ c +ℤ (at -ℤ t -ℤ c) ≡ at
put_together t c at = omega (arith, ints)

-- out of a Transform by a number k from the centre
from_divided : (t s c k at : ℤ) → int_div_euclid (s *ℤ (c +ℤ k -ℤ c)) (pos 1000000) ≡ at -ℤ t -ℤ c → IsNear at → along_of t s c (c +ℤ k) ≡ at
from_divided t s c k at divided near =
    ap (λ z. clamped (t +ℤ c +ℤ z)) divided ∙ (ap clamped (put_together t c at) ∙ unclamped at near)

from_inside : (t s c k at : ℤ) → k *ℤ s ≡ away t c at → IsNear at → along_of t s c (c +ℤ k) ≡ at
from_inside t s c k at even near =
    let scaled : s *ℤ (c +ℤ k -ℤ c) ≡ (at -ℤ t -ℤ c) *ℤ pos 1000000 =
    ap (λ z. s *ℤ z) (from_center c k) ∙ (turned s k ∙ even) in
    from_divided t s c k at (whole (s *ℤ (c +ℤ k -ℤ c)) (at -ℤ t -ℤ c) scaled) near

comes_back : (t s c at : ℤ) → Divides t s c at → along_of t s c (back_along t s c at) ≡ at
unfolding back_along
comes_back t s c at d =
    let k = quotient (away t c at) s in
    ap (along_of t s c) (unclamped (c +ℤ k) d.reach.inside) ∙ from_inside t s c k at d.even d.reach.outside

-- ---- a scale that doesn't divide

parts : (a b : ℕ) → 0 < b → a / b * b + a % b ≡ a
parts a b h = grind arith

rest_small : (a b : ℕ) → 0 < b → a % b < b
rest_small a b h = grind arith

down : (z d : ℤ) → pos 0 <ℤ d → (int_div_euclid z d *ℤ d) ≤ℤ z
down (pos a) (pos b) h = let e = parts a b (omega (arith, ints)) in omega (arith, ints)
down (negsuc a) (pos zero) h = absurd (omega (arith, ints))
down (negsuc a) (pos (suc b)) h =
    let e = parts a (suc b) (omega arith) in
    let r = rest_small a (suc b) (omega arith) in
    omega (arith, ints)
down z (negsuc b) h = absurd (omega (arith, ints))

down_millions : (z : ℤ) → (int_div_euclid z (pos 1000000) *ℤ pos 1000000) ≤ℤ z
down_millions (pos a) = omega (arith, ints)
down_millions (negsuc a) = omega (arith, ints)

-- d millions fit below p, which is below a's millions; where the sum comes to `at` they are a's
same_millions : (t c at d p : ℤ) → neg_ℤ (pos 1000000000000000) <ℤ at → (d *ℤ pos 1000000) ≤ℤ p → p ≤ℤ away t c at → clamped (t +ℤ c +ℤ d) ≡ at → p ≡ away t c at
same_millions t c at d p above low high is = omega (arith, ints, clamps, is)

of_positive : (z s : ℤ) → pos 0 <ℤ s → quotient z s ≡ int_div_euclid z s
of_positive z s h =
    let below : int_lt s (pos 0) ≡ false = grind (arith, ints) in
    let above : int_lt (pos 0) s ≡ true = grind (arith, ints) in
    cond-false (int_lt s (pos 0)) (int_div_euclid (neg_ℤ z) (neg_ℤ s)) (if int_lt (pos 0) s then int_div_euclid z s else pos 0) below
    ∙ cond-true (int_lt (pos 0) s) (int_div_euclid z s) (pos 0) above

pub scales_divide : ScalesDivide
unfolding back_along
scales_divide t s c at positive above reach is =
    let k = quotient (away t c at) s in
    let inner : along_of t s c (c +ℤ k) ≡ at = ap (along_of t s c) (sym (unclamped (c +ℤ k) reach.inside)) ∙ is in
    let product : s *ℤ (c +ℤ k -ℤ c) ≡ k *ℤ s = ap (λ z. s *ℤ z) (from_center c k) ∙ turned s k in
    let sum : clamped (t +ℤ c +ℤ int_div_euclid (k *ℤ s) (pos 1000000)) ≡ at = ap (λ z. clamped (t +ℤ c +ℤ int_div_euclid z (pos 1000000))) (sym product) ∙ inner in
    let high : (k *ℤ s) ≤ℤ away t c at = subst (λ z. (z *ℤ s) ≤ℤ away t c at) (sym (of_positive (away t c at) s positive)) (down (away t c at) s positive) in
    same_millions t c at (int_div_euclid (k *ℤ s) (pos 1000000)) (k *ℤ s) above (down_millions (k *ℤ s)) high sum

-- ---- a scale below 0

up : (z d : ℤ) → pos 0 <ℤ d → z <ℤ (int_div_euclid z d *ℤ d +ℤ d)
up (pos a) (pos b) h =
    let e = parts a b (omega (arith, ints)) in
    let r = rest_small a b (omega (arith, ints)) in
    omega (arith, ints)
up (negsuc a) (pos zero) h = absurd (omega (arith, ints))
up (negsuc a) (pos (suc b)) h = let e = parts a (suc b) (omega arith) in omega (arith, ints)
up z (negsuc b) h = absurd (omega (arith, ints))

whole_below : (z q : ℤ) → (q *ℤ pos 1000000) ≤ℤ z → z <ℤ (q *ℤ pos 1000000 +ℤ pos 1000000) → int_div_euclid z (pos 1000000) ≡ q
whole_below (pos a) q l h = omega (arith, ints)
whole_below (negsuc a) q l h = omega (arith, ints)

turned_low : (a p : ℤ) → p ≤ℤ neg_ℤ a → a ≤ℤ neg_ℤ p
turned_low a p h = omega (arith, ints)

turned_high : (a p : ℤ) (m : ℕ) → neg_ℤ a <ℤ (p +ℤ pos (suc m)) → m ≤ 999999 → neg_ℤ p <ℤ (a +ℤ pos 1000000)
turned_high a p m h l = omega (arith, ints)

of_negative : (z : ℤ) (m : ℕ) → quotient z (negsuc m) ≡ int_div_euclid (neg_ℤ z) (pos (suc m))
of_negative z m =
    let below : int_lt (negsuc m) (pos 0) ≡ true = grind (arith, ints) in
    cond-true (int_lt (negsuc m) (pos 0)) (int_div_euclid (neg_ℤ z) (pos (suc m))) (if int_lt (pos 0) (negsuc m) then int_div_euclid z (negsuc m) else pos 0) below

pub turned_scales_return : TurnedScalesReturn
unfolding back_along
turned_scales_return t (pos s) c at most below reach = absurd (omega (arith, ints))
turned_scales_return t (negsuc m) c at most below reach =
    let a = away t c at in
    let k = quotient a (negsuc m) in
    let p = k *ℤ pos (suc m) in
    let some : pos 0 <ℤ pos (suc m) = omega (arith, ints) in
    let small : m ≤ 999999 = omega (arith, ints) in
    let low : p ≤ℤ neg_ℤ a = subst (λ z. (z *ℤ pos (suc m)) ≤ℤ neg_ℤ a) (sym (of_negative a m)) (down (neg_ℤ a) (pos (suc m)) some) in
    let high : neg_ℤ a <ℤ (p +ℤ pos (suc m)) = subst (λ z. neg_ℤ a <ℤ (z *ℤ pos (suc m) +ℤ pos (suc m))) (sym (of_negative a m)) (up (neg_ℤ a) (pos (suc m)) some) in
    let product : negsuc m *ℤ (c +ℤ k -ℤ c) ≡ neg_ℤ p = ap (λ z. negsuc m *ℤ z) (from_center c k) ∙ (turned (negsuc m) k ∙ *ℤ-negsuc k m) in
    let divided : int_div_euclid (negsuc m *ℤ (c +ℤ k -ℤ c)) (pos 1000000) ≡ at -ℤ t -ℤ c =
    ap (λ z. int_div_euclid z (pos 1000000)) product ∙ whole_below (neg_ℤ p) (at -ℤ t -ℤ c) (turned_low a p low) (turned_high a p m high small) in
    ap (along_of t (negsuc m) c) (unclamped (c +ℤ k) reach.inside) ∙ from_divided t (negsuc m) c k at divided reach.outside

-- ---- a point

point_back : (own : Option Fields) (p : Vec3) → DividesPoint (motion_of own).translation (motion_of own).scale (motion_of own).center p → moved (motion_of own) (moved_back (motion_of own) p) ≡ p
unfolding moved_back
point_back own p d =
    let t = (motion_of own).translation in
    let s = (motion_of own).scale in
    let c = (motion_of own).center in
    let make : ℤ → ℤ → ℤ → Vec3 = λ x y z. record { x = x; y = y; z = z } in
    let there : ℤ → ℤ → ℤ → ℤ → ℤ = λ t s c at. along_of t s c (back_along t s c at) in
    ap (λ x. make x (there t.y s.y c.y p.y) (there t.z s.z c.z p.z)) (comes_back t.x s.x c.x p.x d.x)
    ∙ (ap (λ y. make p.x y (there t.z s.z c.z p.z)) (comes_back t.y s.y c.y p.y d.y) ∙ ap (λ z. make p.x p.y z) (comes_back t.z s.z c.z p.z d.z))

by_type : (own : Option Fields) (p : Vec3) (o : Option NodeType) → DividesBy o own p → (if is_transform_as o then moved (motion_of own) (if is_transform_as o then moved_back (motion_of own) p else p) else (if is_transform_as o then moved_back (motion_of own) p else p)) ≡ p
by_type own p None d = refl
by_type own p (Some Transform) d = point_back own p d
by_type own p (Some _) d = refl

node_back : (scene : SceneView) (state : List Fields) (node : ℕ) (p : Vec3) → DividesBy (type_at scene node) (slice_get state node) p → outside scene state node (inside scene state node p) ≡ p
unfolding outside inside
node_back scene state node p d = by_type (slice_get state node) p (type_at scene node) d

pub again : OutwardsAgain
unfolding outward inward AllDivide
again scene state [] p d = refl
again scene state (node ∷ nodes) p d =
    ap (outside scene state node) (again scene state nodes (inside scene state node p) d.1) ∙ node_back scene state node p d.0
