-- A pointer is inside a sensor at a place in range, by a way that leads to the sensor; and a ray meets
-- the plane of a drag at a place in range.
use Rattle.std.proofs.Common.{◌≡◌, ℕ, ◌^◌, ◌==◌, ℤ, pos, neg_ℤ, ◌+ℤ◌, ◌-ℤ◌, ◌*ℤ◌, int_lt, unsigned_abs, Bool, true, false, ◌&&◌, if◌then◌else◌, List, [], ◌∷◌, map, take, Option, Some, None, slice_get, option_map, refl, subst, arith, le-leb, eqb-true}
use Rattle.std.specs.Int.{int_max, int_div_euclid}
use Rattle.std.specs.List.{AllByRecursion, list_any}
use Rattle.std.specs.Option.{option_map_or, option_and_then}
use Rattle.std.proofs.lemmas.Int.{ints}
use Rattle.byte_codec.proofs.Laws.{both, and_true}
use Rattle.x3d_values.specs.declared.fields.Fields.{Fields}
use Rattle.x3d_values.specs.declared.node_type.NodeType.{NodeType}
use Rattle.x3d_values.specs.declared.node_type.NodeType.TheVariants.{Transform}
use Rattle.x3d_values.specs.declared.vector.Vec3.{Vec3}
use Rattle.x3d_values.specs.Pointing.{RayView}
use Rattle.x3d_values.specs.Ranges.{coordinates_fit}
use Rattle.scene_core.specs.Scene.{SceneView, type_at}
use Rattle.snapshot_codec.specs.Values.{is_within, vector3}
use Rattle.pick_core.specs.Boxes.{boxes}
use Rattle.pick_core.specs.Local.{reached, point_along, quotient, back_along, moved_back, entered, entered_by, or_own, local_along, or_world, local_of}
use Rattle.pick_core.specs.Looks.{kind_as, kind_of, motion_of}
use Rattle.pick_core.specs.Motion.{clamped}
use Rattle.pick_core.specs.Picked.{picked}
use Rattle.pick_core.specs.Sensors.{list_of, siblings_in, sensors_of}
use Rattle.pick_core.specs.declared.hit.Hit.{Hit}
use Rattle.pick_core.specs.Paths.{inside, inward, is_transform, leads_to, nodes_along, outward}
use Rattle.pick_core.specs.Track.{at_height, comes_to, met, met_at, met_on, track_of, tracked}
use Rattle.pick_core.proofs.Leading.{paths_lead}
use Rattle.sensor_plane.specs.declared.pointer.Contact.{Contact}
use Rattle.sensor_plane.specs.Paths.{path_fits}
use Rattle.sensor_plane.specs.PlaneParts.{contact_fits}
use Rattle.cascade_world.specs.Insides.{Insides, contact_by, contact_in, contact_of, inside_at, inside_by, inside_of, insides, place_in}
use Rattle.cascade_world.specs.declared.aim.Inside.{Inside}
use Rattle.laws_worlds.proofs.Rows.{some_is}

low_fits : (z : ℤ) → (b : Bool) → int_lt z (neg_ℤ (pos 1000000000000000)) ≡ b → int_lt (pos 1000000000000000) z ≡ false → is_within (10 ^ 15) (if b then neg_ℤ (pos 1000000000000000) else z) ≡ true
low_fits z true e h = refl
low_fits z false e h = le-leb (unsigned_abs z) (10 ^ 15) (grind (arith, ints))

high_fits : (z : ℤ) → (b : Bool) → int_lt (pos 1000000000000000) z ≡ b → is_within (10 ^ 15) (int_max (neg_ℤ (pos 1000000000000000)) (if b then pos 1000000000000000 else z)) ≡ true
high_fits z true e = refl
high_fits z false e = low_fits z (int_lt z (neg_ℤ (pos 1000000000000000))) refl e

clamped_fits : (z : ℤ) → is_within (10 ^ 15) (clamped z) ≡ true
clamped_fits z = high_fits z (int_lt (pos 1000000000000000) z) refl

abbrev pub InRange : Vec3 → Type 0
InRange p = vector3.fits p ≡ true

ray_fits : (ray : RayView) (n m : ℕ) → InRange (point_along ray n m)
unfolding point_along reached vector3
ray_fits ray n m =
    and_true _ _ (clamped_fits (ray.origin.x +ℤ int_div_euclid (pos n *ℤ ray.dir.x) (pos m)))
    (and_true _ _ (clamped_fits (ray.origin.y +ℤ int_div_euclid (pos n *ℤ ray.dir.y) (pos m))) (clamped_fits (ray.origin.z +ℤ int_div_euclid (pos n *ℤ ray.dir.z) (pos m))))

moved_fits : (own : Option Fields) (p : Vec3) → InRange (moved_back (motion_of own) p)
unfolding moved_back back_along vector3
moved_fits own p =
    and_true _ _ (clamped_fits ((motion_of own).center.x +ℤ quotient ((p.x -ℤ (motion_of own).translation.x -ℤ (motion_of own).center.x) *ℤ pos 1000000) (motion_of own).scale.x))
    (and_true _ _ (clamped_fits ((motion_of own).center.y +ℤ quotient ((p.y -ℤ (motion_of own).translation.y -ℤ (motion_of own).center.y) *ℤ pos 1000000) (motion_of own).scale.y)) (clamped_fits ((motion_of own).center.z +ℤ quotient ((p.z -ℤ (motion_of own).translation.z -ℤ (motion_of own).center.z) *ℤ pos 1000000) (motion_of own).scale.z)))

kind_fits : (scene : SceneView) (node : ℕ) (own : Option Fields) (p : Vec3) → InRange p → (o : Option NodeType) → InRange (entered_by (kind_as scene node o) own p)
kind_fits scene node own p f None = f
kind_fits scene node own p f (Some Transform) = moved_fits own p
kind_fits scene node own p f (Some _) = f

entered_fits : (scene : SceneView) (state : List Fields) (node : ℕ) (p : Vec3) → InRange p → InRange (entered scene state node p)
unfolding entered kind_of
entered_fits scene state node p f = kind_fits scene node (slice_get state node) p f (type_at scene node)

abbrev pub IfInRange : Option Vec3 → Type 0
IfInRange place = option_map_or vector3.fits place true ≡ true

own_fits : (one own : Option Vec3) → IfInRange one → IfInRange own → IfInRange (or_own one own)
own_fits None own f g = g
own_fits (Some p) own f g = f

if_fits : (b : Bool) (p : Vec3) → InRange p → IfInRange (if b then Some p else None)
if_fits true p f = f
if_fits false p f = refl

then_fits : {A : Type 0} (o : Option A) (f : A → Option Vec3) → ((x : A) → IfInRange (f x)) → IfInRange (option_and_then f o)
then_fits None f h = refl
then_fits (Some x) f h = h x

along_fits : (scene : SceneView) (state : List Fields) (sensor : ℕ) (path : List ℕ) (owner : Option ℕ) (at : Vec3) → InRange at → IfInRange (local_along scene state sensor owner path at)
unfolding local_along
along_fits scene state sensor [] owner at f = refl
along_fits scene state sensor (p ∷ ps) owner at f =
    own_fits
    (option_and_then (λ (child : ℕ). local_along scene state sensor (Some child) ps (entered scene state child at)) (slice_get (list_of scene owner) p))
    (if list_any (λ (n : ℕ). n == sensor) (siblings_in scene owner) then Some at else None)
    (then_fits (slice_get (list_of scene owner) p) (λ (child : ℕ). local_along scene state sensor (Some child) ps (entered scene state child at))
    (λ child. along_fits scene state sensor ps (Some child) (entered scene state child at) (entered_fits scene state child at f)))
    (if_fits (list_any (λ (n : ℕ). n == sensor) (siblings_in scene owner)) at f)

or_fits : (one : Option Vec3) (world : Vec3) → IfInRange one → InRange world → InRange (or_world one world)
or_fits None world f g = g
or_fits (Some p) world f g = f

local_fits : (scene : SceneView) (state : List Fields) (hit : Hit) (ray : RayView) (sensor : ℕ) → InRange (local_of scene state hit ray sensor)
unfolding local_of
local_fits scene state hit ray sensor =
    or_fits (local_along scene state sensor None hit.path (point_along ray hit.n hit.m)) (point_along ray hit.n hit.m)
    (along_fits scene state sensor hit.path None (point_along ray hit.n hit.m) (ray_fits ray hit.n hit.m)) (ray_fits ray hit.n hit.m)

-- ---- the sensors that a ray is inside of

-- its place is in range, and so much of the path leads to a list that holds it
pub record Leads (scene : SceneView) (path : Option (List ℕ)) (i : Inside) : Type 0 where
  pub place : InRange i.point
  pub way : (ps : List ℕ) (depth : ℕ) → path ≡ Some ps → i.depth ≡ Some depth → leads_to scene None (take depth ps) i.sensor ≡ true

abbrev pub AllLead : SceneView → Insides → Type 0
AllLead scene is = AllByRecursion (Leads scene is.path) is.sensors

each_leads : (scene : SceneView) (state : List Fields) (ray : RayView) (hit : Hit) (sensors : List ℕ) → AllByRecursion (Leads scene (Some hit.path)) (map (inside_by scene state ray hit) sensors)
each_leads scene state ray hit [] = tt
each_leads scene state ray hit (sensor ∷ sensors) =
    let here : Leads scene (Some hit.path) (inside_by scene state ray hit sensor) = record {
      place = local_fits scene state hit ray sensor;
      way = λ ps depth p d. subst (λ (path : List ℕ). leads_to scene None (take depth path) sensor ≡ true) (some_is hit.path ps p) (paths_lead scene sensor None hit.path depth d);
    } in
    (here, each_leads scene state ray hit sensors)

pub insides_lead : (scene : SceneView) (state : List Fields) (ray : RayView) → AllLead scene (insides scene state ray)
unfolding insides
insides_lead scene state ray = given (picked ray (boxes scene state))
  where
    given : (o : Option Hit) → AllLead scene (inside_of scene state ray o)
    given None = tt
    given (Some hit) = each_leads scene state ray hit (sensors_of scene state hit.path)

module _ (scene : SceneView) (path : Option (List ℕ)) (sensor : ℕ) where
  -- the sensor that is found is that of the number
  Found : Option Inside → Type 0
  Found None = Unit {0}
  Found (Some i) = Leads scene path i × (i.sensor ≡ sensor)

  found : (is : List Inside) → AllByRecursion (Leads scene path) is → Found (inside_at is sensor)
  unfolding inside_at Found
  found [] all = tt
  found (i ∷ is) all = given (i.sensor == sensor) refl (found is all.1)
    where
      given : (b : Bool) → (i.sensor == sensor) ≡ b → Found (inside_at is sensor) → Found (if b then Some i else inside_at is sensor)
      given true e rest = (all.0, eqb-true i.sensor sensor e)
      given false e rest = rest

  place_of : (o : Option Inside) → Found o → IfInRange (option_map (λ (i : Inside). i.point) o)
  unfolding Found
  place_of None f = refl
  place_of (Some i) f = f.0.place

  -- ---- how a drag may begin

  -- it is in range, and its way leads to the sensor
  abbrev pub Right : Option Contact → Type 0
  Right o = (contact_fits o ≡ true) × ((c : Contact) → o ≡ Some c → leads_to scene None c.path sensor ≡ true)

  none_right : Right None
  none_right = (refl, λ c e. absurd cc)

  right_by : (point : Vec3) (way : List ℕ) (b : Bool) → path_fits way ≡ b → InRange point → leads_to scene None way sensor ≡ true
      → Right (option_map (λ (ps : List ℕ). let c : Contact = record { point = point; path = ps } in c) (if b then Some way else None))
  unfolding vector3
  right_by point way true e p l = (
    and_true (coordinates_fit point) (path_fits way) p e,
    λ c same. subst (λ (x : Contact). leads_to scene None x.path sensor ≡ true) (some_is (record { point = point; path = way }) c same) l,
  )
  right_by point way false e p l = none_right

  right_at : (ps : List ℕ) (i : Inside) (depth : ℕ) → path ≡ Some ps → i.depth ≡ Some depth → Leads scene path i → i.sensor ≡ sensor → Right (contact_by ps i depth)
  right_at ps i depth p d l is =
      right_by i.point (take depth ps) (path_fits (take depth ps)) refl l.place (subst (λ (n : ℕ). leads_to scene None (take depth ps) n ≡ true) is (l.way ps depth p d))

  right_deep : (ps : List ℕ) (i : Inside) (o : Option ℕ) → path ≡ Some ps → i.depth ≡ o → Leads scene path i → i.sensor ≡ sensor → Right (option_and_then (contact_by ps i) o)
  right_deep ps i None p d l is = none_right
  right_deep ps i (Some depth) p d l is = right_at ps i depth p d l is

  right_along : (o : Option (List ℕ)) (i : Inside) → path ≡ o → Leads scene path i → i.sensor ≡ sensor → Right (contact_of o i)
  right_along None i p l is = none_right
  right_along (Some ps) i p l is = right_deep ps i i.depth p refl l is

  right_of : (o : Option Inside) → Found o → Right (option_and_then (contact_of path) o)
  unfolding Found
  right_of None f = none_right
  right_of (Some i) f = right_along path i refl f.0 f.1

pub place_fits : (scene : SceneView) (is : Insides) (sensor : ℕ) → AllLead scene is → IfInRange (place_in is sensor)
place_fits scene is sensor all = place_of scene is.path sensor (inside_at is.sensors sensor) (found scene is.path sensor is.sensors all)

pub contact_right : (scene : SceneView) (is : Insides) (sensor : ℕ) → AllLead scene is → Right scene is.path sensor (contact_in is sensor)
contact_right scene is sensor all = right_of scene is.path sensor (inside_at is.sensors sensor) (found scene is.path sensor is.sensors all)

-- ---- where a ray meets the plane of a drag

-- x and y are in range
Flat : Vec3 → Type 0
Flat p = (is_within (10 ^ 15) p.x ≡ true) × (is_within (10 ^ 15) p.y ≡ true)

range_flat : (p : Vec3) → InRange p → Flat p
unfolding vector3 Flat
range_flat p f =
    let a = both (is_within (10 ^ 15) p.x) (is_within (10 ^ 15) p.y && is_within (10 ^ 15) p.z) f in
    (a.0, (both (is_within (10 ^ 15) p.y) (is_within (10 ^ 15) p.z) a.1).0)

inside_flat : (scene : SceneView) (state : List Fields) (node : ℕ) (p : Vec3) → Flat p → Flat (inside scene state node p)
unfolding inside
inside_flat scene state node p f = given (is_transform scene node)
  where
    given : (b : Bool) → Flat (if b then moved_back (motion_of (slice_get state node)) p else p)
    given true = range_flat (moved_back (motion_of (slice_get state node)) p) (moved_fits (slice_get state node) p)
    given false = f

inward_flat : (scene : SceneView) (state : List Fields) (nodes : List ℕ) (p : Vec3) → Flat p → Flat (inward scene state nodes p)
unfolding inward
inward_flat scene state [] p f = f
inward_flat scene state (node ∷ nodes) p f = inward_flat scene state nodes (inside scene state node p) (inside_flat scene state node p f)

met_flat : (ray : RayView) (height : ℤ) → Flat (met_at ray.origin ray.dir height)
unfolding met_on Flat
met_flat ray height =
    (clamped_fits (ray.origin.x +ℤ quotient (ray.dir.x *ℤ (height -ℤ ray.origin.z)) ray.dir.z), clamped_fits (ray.origin.y +ℤ quotient (ray.dir.y *ℤ (height -ℤ ray.origin.z)) ray.dir.z))

tracked_fits : (scene : SceneView) (state : List Fields) (nodes : List ℕ) (start : Vec3) (ray : RayView) → coordinates_fit start ≡ true → option_map_or coordinates_fit (tracked scene state nodes start ray) true ≡ true
unfolding met Flat
tracked_fits scene state nodes start ray s = given (outward scene state nodes start).z (comes_to ray.origin.z ray.dir.z (outward scene state nodes start).z)
  where
    given : (height : ℤ) (b : Bool) → option_map_or coordinates_fit (option_map (λ (p : Vec3). at_height start (inward scene state nodes p)) (if b then Some (met_at ray.origin ray.dir height) else None)) true ≡ true
    given height true =
        let p : Vec3 = inward scene state nodes (met_at ray.origin ray.dir height) in
        let f = inward_flat scene state nodes (met_at ray.origin ray.dir height) (met_flat ray height) in
        let a = both (is_within (10 ^ 15) start.x) (is_within (10 ^ 15) start.y && is_within (10 ^ 15) start.z) s in
        and_true (is_within (10 ^ 15) p.x) (is_within (10 ^ 15) p.y && is_within (10 ^ 15) start.z) f.0
        (and_true (is_within (10 ^ 15) p.y) (is_within (10 ^ 15) start.z) f.1 (both (is_within (10 ^ 15) start.y) (is_within (10 ^ 15) start.z) a.1).1)
    given height false = refl

pub track_fits : (scene : SceneView) (state : List Fields) (path : List ℕ) (start : Vec3) (ray : RayView) → coordinates_fit start ≡ true → option_map_or coordinates_fit (track_of scene state path start ray) true ≡ true
unfolding track_of
track_fits scene state path start ray s = tracked_fits scene state (nodes_along scene None path) start ray s
