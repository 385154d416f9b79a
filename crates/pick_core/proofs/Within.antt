-- Where a box of a scene is hit lies within the limit of size.
use Rattle.std.proofs.Common.{◌≡◌, ℕ, zero, suc, ◌+◌, ◌*◌, ◌/◌, ◌%◌, ◌<◌, ◌≤◌, ℤ, pos, negsuc, neg_ℤ, ◌+ℤ◌, ◌-ℤ◌, ◌*ℤ◌, ◌≤ℤ◌, ◌<ℤ◌, Bool, true, false, ◌&&◌, List, [], ◌∷◌, Option, Some, None, map, slice_get, inl, inr, refl, ap, ◌∙◌, arith, leb-true}
use Rattle.std.specs.Int.{int_div_euclid, int_max, int_min}
use Rattle.std.specs.List.{AllByRecursion}
use Rattle.std.proofs.Math.Nat.{mul-le-mul_right}
use Rattle.std.proofs.lemmas.Bool.{cases_lt}
use Rattle.std.proofs.lemmas.Int.{ints, clamps}
use borrow.Author.Differences.{up, down}
use Rattle.x3d_values.specs.declared.fields.Fields.{Fields}
use Rattle.x3d_values.specs.declared.vector.Vec3.{Vec3}
use Rattle.x3d_values.specs.Pointing.{RayView}
use Rattle.x3d_values.specs.Ranges.{coordinate_fits, coordinates_fit}
use Rattle.scene_core.specs.Scene.{SceneView}
use Rattle.pick_rules.specs.Hits.{IsCrossed, IsHit}
use Rattle.pick_rules.specs.declared.bounds.Bounds.{Bounds}
use Rattle.pick_rules.proofs.Fractions.{mul_parts}
use Rattle.pick_core.specs.Boxes.{Placed, boxes, inside, layer, shown, shown_child, under}
use Rattle.pick_core.specs.Local.{on_axis, point_along, reached}
use Rattle.pick_core.specs.Looks.{choice_of, kind_of, listed, motion_of}
use Rattle.pick_core.specs.Motion.{box_of, clamped, half, moved_at, moved_box, moved_by}
use Rattle.pick_core.specs.Nearest.{IsReached}
use Rattle.pick_core.specs.Spread.{spread}
use Rattle.pick_core.specs.Within.{AreSized, HitsAreOnRays}
use Rattle.pick_core.specs.declared.hit.Hit.{Hit}
use Rattle.pick_core.specs.declared.look.Role.{Role}
use Rattle.pick_core.specs.declared.look.Role.TheVariants.{Group, Transform, Switch, Shape, Other}
use Rattle.pick_core.specs.declared.look.Motion.{Motion}
use Rattle.pick_core.specs.declared.trail.Place.{Place}
use Rattle.pick_core.proofs.Picking.{each-append}

abbrev limit : ℤ
limit = pos 1000000000000000

-- ---- the quotient rounded down

parts : (a b : ℕ) → 0 < b → a / b * b + a % b ≡ a
parts a b h = grind arith

rest_small : (a b : ℕ) → 0 < b → a % b < b
rest_small a b h = grind arith

record IsFloor (z q : ℤ) (m : ℕ) : Type 0 where
  below : (pos m *ℤ q) ≤ℤ z
  above : z <ℤ (pos m *ℤ q +ℤ pos m)

floor : (z : ℤ) (m : ℕ) → 0 < m → IsFloor z (int_div_euclid z (pos m)) m
floor (pos a) m p = record {
  below = omega (arith, ints, mul_parts m (pos (a / m)), parts a m p);
  above = omega (arith, ints, mul_parts m (pos (a / m)), parts a m p, rest_small a m p);
}
floor (negsuc a) m p = record {
  below = omega (arith, ints, mul_parts m (negsuc (a / m)), parts a m p, rest_small a m p);
  above = omega (arith, ints, mul_parts m (negsuc (a / m)), parts a m p);
}

-- products are sums over sums
times_sum : (m : ℕ) (a b : ℤ) → pos m *ℤ (a +ℤ b) ≡ pos m *ℤ a +ℤ pos m *ℤ b
times_sum m a b =
    let k : up (a +ℤ b) + down a + down b ≡ down (a +ℤ b) + up a + up b = omega (arith, ints) in
    let km : m * (up (a +ℤ b) + down a + down b) ≡ m * (down (a +ℤ b) + up a + up b) = ap (λ x. m * x) k in
    omega (arith, ints, mul_parts m (a +ℤ b), mul_parts m a, mul_parts m b)

fewer : (x y m : ℕ) → x * m < y * m + m → x ≤ y
fewer x y m h = elim (cases_lt y x) [
  | inl k ↦ absurd (let w : (y + 1) * m ≤ x * m = mul-le-mul_right m (omega (arith, k)) in omega (arith, w, h))
  | inr k ↦ k
]

-- m * a is below m * (b + 1)
up_to : (a b : ℤ) (m : ℕ) → (pos m *ℤ a) <ℤ (pos m *ℤ b +ℤ pos m) → a ≤ℤ b
up_to a b m h =
    let k : (up a + down b) * m < (up b + down a) * m + m = omega (arith, ints, mul_parts m a, mul_parts m b, h) in
    let l = fewer (up a + down b) (up b + down a) m k in
    omega (arith, ints, l)

-- ---- a point between two sides

record IsBetween (low high at : ℤ) : Type 0 where
  above : low ≤ℤ at
  below : at ≤ℤ high

between : (low high origin d : ℤ) (n m : ℕ) → 0 < m → IsCrossed low high origin d n m → IsBetween low high (on_axis origin d n m)
between low high origin d n m p h =
    let z : ℤ = pos n *ℤ d in
    let q : ℤ = int_div_euclid z (pos m) in
    let f = floor z m p in
    let s = times_sum m origin q in
    record {
      above = up_to low (origin +ℤ q) m (omega (arith, ints, h.above, f.above, s));
      below = up_to (origin +ℤ q) high m (omega (arith, ints, h.below, f.below, s, p));
    }

same_clamped : (low high at : ℤ) → neg_ℤ limit ≤ℤ low → high ≤ℤ limit → IsBetween low high at → clamped at ≡ at
same_clamped low high at l h b =
    let x : neg_ℤ limit ≤ℤ at = omega (arith, ints, l, b.above) in
    let y : at ≤ℤ limit = omega (arith, ints, h, b.below) in
    omega (arith, ints, clamps, x, y)

-- ---- boxes within the limit

record IsInside (b : Bounds) : Type 0 where
  low_x : neg_ℤ limit ≤ℤ b.low.x
  low_y : neg_ℤ limit ≤ℤ b.low.y
  low_z : neg_ℤ limit ≤ℤ b.low.z
  high_x : b.high.x ≤ℤ limit
  high_y : b.high.y ≤ℤ limit
  high_z : b.high.z ≤ℤ limit

min_inside : (a b : ℤ) → neg_ℤ limit ≤ℤ int_min (clamped a) (clamped b)
min_inside a b = omega (arith, ints, clamps)

max_inside : (a b : ℤ) → int_max (clamped a) (clamped b) ≤ℤ limit
max_inside a b = omega (arith, ints, clamps)

abbrev sum_of : ℤ → ℤ → ℤ → ℤ → ℤ
sum_of translation scale center at = translation +ℤ center +ℤ int_div_euclid (scale *ℤ (at -ℤ center)) (pos 1000000)

moved_inside : (m : Motion) (b : Bounds) → IsInside (moved_box m b)
unfolding moved_box
moved_inside m b =
    let x : ℤ → ℤ = sum_of m.translation.x m.scale.x m.center.x in
    let y : ℤ → ℤ = sum_of m.translation.y m.scale.y m.center.y in
    let z : ℤ → ℤ = sum_of m.translation.z m.scale.z m.center.z in
    record {
      low_x = min_inside (x b.low.x) (x b.high.x);
      low_y = min_inside (y b.low.y) (y b.high.y);
      low_z = min_inside (z b.low.z) (z b.high.z);
      high_x = max_inside (x b.low.x) (x b.high.x);
      high_y = max_inside (y b.low.y) (y b.high.y);
      high_z = max_inside (z b.low.z) (z b.high.z);
    }

half_up_to : (z : ℤ) → coordinate_fits z ≡ true → half z ≤ℤ limit
half_up_to (pos a) h = omega (arith, ints, leb-true a 1000000000000000 h)
half_up_to (negsuc a) h = omega (arith, ints)

half_from : (z : ℤ) → coordinate_fits z ≡ true → neg_ℤ limit ≤ℤ neg_ℤ (half z)
half_from z h = omega (arith, ints, half_up_to z h)

and_parts : (a b : Bool) → (a && b) ≡ true → (a ≡ true) × (b ≡ true)
and_parts true b h = (refl, h)
and_parts false b h = absurd cc

box_inside : (size : Vec3) → coordinates_fit size ≡ true → IsInside (box_of size)
unfolding box_of
box_inside size h =
    let a = and_parts (coordinate_fits size.x) _ h in
    let b = and_parts (coordinate_fits size.y) (coordinate_fits size.z) a.1 in
    record {
      low_x = half_from size.x a.0;
      low_y = half_from size.y b.0;
      low_z = half_from size.z b.1;
      high_x = half_up_to size.x a.0;
      high_y = half_up_to size.y b.0;
      high_z = half_up_to size.z b.1;
    }

-- ---- all boxes of a scene

abbrev AllInside : List Placed → Type 0
AllInside ps = AllByRecursion (λ (p : Placed). IsInside p.bounds) ps

map_inside : (f : Placed → Placed) → ((p : Placed) → IsInside p.bounds → IsInside (f p).bounds) → (ps : List Placed) → AllInside ps → AllInside (map f ps)
map_inside f k [] h = tt
map_inside f k (p ∷ ps) h = (k p h.0, map_inside f k ps h.1)

spread_inside : (f : ℕ → ℕ → Placed → Placed) → ((position node : ℕ) (p : Placed) → IsInside p.bounds → IsInside (f position node p).bounds)
    → (g : ℕ → List Placed) → ((node : ℕ) → AllInside (g node)) → (position : ℕ) (nodes : List ℕ) → AllInside (spread f g position nodes)
unfolding spread
spread_inside f k g h position [] = tt
spread_inside f k g h position (node ∷ nodes) =
    each-append (λ (p : Placed). IsInside p.bounds) (map (f position node) (g node)) (spread f g (position + 1) nodes)
    (map_inside (f position node) (k position node) (g node) (h node)) (spread_inside f k g h (position + 1) nodes)

shown_inside : (f : ℕ → ℕ → Placed → Placed) → ((position node : ℕ) (p : Placed) → IsInside p.bounds → IsInside (f position node p).bounds)
    → (g : ℕ → List Placed) → ((node : ℕ) → AllInside (g node)) → (o : Option Place) → AllInside (shown f g o)
shown_inside f k g h None = tt
shown_inside f k g h (Some p) = map_inside (f p.position p.node) (k p.position p.node) (g p.node) (h p.node)

by_kind : (k : Role) (own : Option Fields) (b : Bounds) → IsInside b → IsInside (moved_by k own b)
by_kind Transform own b h = moved_inside (motion_of own) b
by_kind Group own b h = h
by_kind Switch own b h = h
by_kind (Shape size) own b h = h
by_kind Other own b h = h

module _ (scene : SceneView) (state : List Fields) (sized : AreSized scene) where
  under_inside : (position node : ℕ) (p : Placed) → IsInside p.bounds → IsInside (under scene state position node p).bounds
  unfolding moved_at
  under_inside position node p h = by_kind (kind_of scene node) (slice_get state node) p.bounds h

  layer_inside : (g : ℕ → List Placed) → ((node : ℕ) → AllInside (g node)) → (node : ℕ) (which : ℤ) (k : Role) (children : List ℕ) → kind_of scene node ≡ k → AllInside (layer (under scene state) g which k children)
  layer_inside g h node which Group children e = spread_inside (under scene state) under_inside g h 0 children
  layer_inside g h node which Transform children e = spread_inside (under scene state) under_inside g h 0 children
  layer_inside g h node which Switch children e = shown_inside (under scene state) under_inside g h (shown_child children which)
  layer_inside g h node which (Shape None) children e = tt
  layer_inside g h node which (Shape (Some size)) children e = (box_inside size (sized node size e), tt)
  layer_inside g h node which Other children e = tt

  all_inside : (depth node : ℕ) → AllInside (inside scene state depth node)
  unfolding inside
  all_inside zero node = tt
  all_inside (suc depth) node = layer_inside (inside scene state depth) (all_inside depth) node (choice_of (slice_get state node)) (kind_of scene node) (listed scene node) refl

  boxes_inside : AllInside (boxes scene state)
  unfolding boxes
  boxes_inside = spread_inside (under scene state) under_inside (inside scene state 64) (all_inside 64) 0 scene.roots

-- ---- a hit

record IsStruck (ray : RayView) (hit : Hit) : Type 0 where
  bounds : Bounds
  within : IsInside bounds
  struck : IsHit bounds ray hit.n hit.m

struck_in : (ray : RayView) (hit : Hit) (bs : List Placed) → AllInside bs → IsReached ray hit bs → IsStruck ray hit
struck_in ray hit [] a h = absurd h
struck_in ray hit (b ∷ bs) a (inl h) = record { bounds = b.bounds; within = a.0; struck = h.1 }
struck_in ray hit (b ∷ bs) a (inr h) = struck_in ray hit bs a.1 h

same_reached : (low high origin d : ℤ) (n m : ℕ) → 0 < m → neg_ℤ limit ≤ℤ low → high ≤ℤ limit → IsCrossed low high origin d n m → reached origin d n m ≡ on_axis origin d n m
unfolding reached
same_reached low high origin d n m p l h c = same_clamped low high (on_axis origin d n m) l h (between low high origin d n m p c)

pub hits_are_on_rays : HitsAreOnRays
unfolding point_along
hits_are_on_rays scene state ray hit sized picked =
    let s = struck_in ray hit (boxes scene state) (boxes_inside scene state sized) picked.reached in
    let b = s.bounds in
    let x = same_reached b.low.x b.high.x ray.origin.x ray.dir.x hit.n hit.m picked.positive s.within.low_x s.within.high_x s.struck.x in
    let y = same_reached b.low.y b.high.y ray.origin.y ray.dir.y hit.n hit.m picked.positive s.within.low_y s.within.high_y s.struck.y in
    let z = same_reached b.low.z b.high.z ray.origin.z ray.dir.z hit.n hit.m picked.positive s.within.low_z s.within.high_z s.struck.z in
    let make : ℤ → ℤ → ℤ → Vec3 = λ u v w. record { x = u; y = v; z = w } in
    ap (λ u. make u (reached ray.origin.y ray.dir.y hit.n hit.m) (reached ray.origin.z ray.dir.z hit.n hit.m)) x
    ∙ (ap (λ v. make (on_axis ray.origin.x ray.dir.x hit.n hit.m) v (reached ray.origin.z ray.dir.z hit.n hit.m)) y
    ∙ ap (λ w. make (on_axis ray.origin.x ray.dir.x hit.n hit.m) (on_axis ray.origin.y ray.dir.y hit.n hit.m) w) z)
