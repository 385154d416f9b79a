-- What lies between two values of a range is in the range.
use Rattle.std.proofs.Common.{◌≡◌, ℕ, ◌+◌, ◌-◌, ◌*◌, ◌/◌, ◌^◌, ◌≤◌, ℤ, Bool, true, false, List, length, drop, Some, None, slice_get, option_map, nat_lt, ◌==◌, if◌then◌else◌, subst, arith, length-take, length-drop}
use Rattle.std.specs.Option.{option_and_then}
use Rattle.std.proofs.lemmas.Bool.{lt-ltb, ltb-true}
use Rattle.byte_codec.specs.Codec.{Codec, all_fit}
use Rattle.byte_codec.proofs.Laws.{both, and_true}
use Rattle.x3d_values.specs.declared.node_type.NodeType.TheVariants.{ScalarInterpolator, PositionInterpolator, PositionInterpolator2D, CoordinateInterpolator}
use Rattle.x3d_values.specs.declared.field_type.FieldType.TheVariants as types
use Rattle.x3d_values.specs.declared.value.Value.{Value}
use Rattle.x3d_values.specs.declared.value.Value.TheVariants.{SFFloat, SFVec2f, SFVec3f, MFFloat, MFVec2f, MFVec3f}
use Rattle.x3d_values.specs.declared.vector.Vec3.{Vec3}
use Rattle.react_core.specs.declared.place.Between.{Between}
use Rattle.react_core.specs.Interpolation.{place_of, mixed, between, number_way, point_way, vector_way, group, groups_way, are_grouped, vectors_between, interpolated}
use Rattle.snapshot_codec.specs.Values.{number, vector2, vector3, list_of, value_fits}
use Rattle.laws_worlds.proofs.Rows.{then_some, map_some, all-get, all-take, all-drop, all-zip, zip-length}
use Rattle.laws_worlds.proofs.Ways.{IsPart, place_is, way_within}

-- a way between two values of a range stays in the range
abbrev Stays : {X : Type 0} → Codec X → (Between → X → X → X) → Type 0
Stays {X} c way = (place : Between) (from to : X) → IsPart place → c.fits from ≡ true → c.fits to ≡ true → c.fits (way place from to) ≡ true

numbers_stay : Stays number number_way
numbers_stay place from to p f t = way_within (10 ^ 15) place.part place.whole from to p.short p.some f t

points_stay : Stays vector2 point_way
unfolding vector2
points_stay place from to p f t =
    let a = both (number.fits from.x) (number.fits from.y) f in
    let b = both (number.fits to.x) (number.fits to.y) t in
    and_true _ _ (numbers_stay place from.x to.x p a.0 b.0) (numbers_stay place from.y to.y p a.1 b.1)

vectors_stay : Stays vector3 vector_way
unfolding vector3
vectors_stay place from to p f t =
    let a = both (number.fits from.x) _ f in
    let b = both (number.fits to.x) _ t in
    let c = both (number.fits from.y) (number.fits from.z) a.1 in
    let d = both (number.fits to.y) (number.fits to.z) b.1 in
    and_true _ _ (numbers_stay place from.x to.x p a.0 b.0)
    (and_true _ _ (numbers_stay place from.y to.y p c.0 d.0) (numbers_stay place from.z to.z p c.1 d.1))

-- ---- one value for each key

mixed_fits : {X : Type 0} (c : Codec X) (way : Between → X → X → X) → Stays c way → (values : List X) (place : Between) (x : X) → IsPart place → all_fit c values ≡ true → mixed way values place ≡ Some x → c.fits x ≡ true
mixed_fits {X} c way stays values place x p f e =
    let a = then_some (λ (from : X). option_map (λ (to : X). way place from to) (slice_get values place.to)) (slice_get values place.from) x e in
    let b = map_some (λ (to : X). way place a.0 to) (slice_get values place.to) x a.2 in
    subst (λ (y : X). c.fits y ≡ true) b.2
    (stays place a.0 b.0 p (all-get c values place.from a.0 f a.1) (all-get c values place.to b.0 f b.1))

between_fits : {X : Type 0} (c : Codec X) (way : Between → X → X → X) → Stays c way → (keys : List ℤ) (values : List X) (fraction : ℤ) (x : X) → all_fit c values ≡ true → between way keys values fraction ≡ Some x → c.fits x ≡ true
unfolding between
between_fits {X} c way stays keys values fraction x f e = given (length values == length keys) e
  where
    given : (b : Bool) → (if b then option_and_then (mixed way values) (place_of keys fraction) else None) ≡ Some x → c.fits x ≡ true
    given false h = absurd cc
    given true h =
        let a = then_some (mixed way values) (place_of keys fraction) x h in
        mixed_fits c way stays values a.0 x (place_is keys fraction a.0 a.1) f a.2

-- ---- equally many values for each key

group_length : (values : List Vec3) (many item : ℕ) → length (group values many item) ≤ length values
group_length values many item =
    let a = length-take (item * many + many - item * many) (drop (item * many) values) in
    let b = length-drop (item * many) values in
    omega (arith, a, b)

group_fits : (values : List Vec3) (many item : ℕ) → all_fit vector3 values ≡ true → all_fit vector3 (group values many item) ≡ true
group_fits values many item f = all-take vector3 (item * many + many - item * many) (drop (item * many) values) (all-drop vector3 (item * many) values f)

groups_fit : (values : List Vec3) (many : ℕ) (place : Between) → IsPart place → (list_of vector3).fits values ≡ true → (list_of vector3).fits (groups_way values many place) ≡ true
groups_fit values many place p f =
    let b = both (nat_lt (length values) (2 ^ 32)) (all_fit vector3 values) f in
    let way : Vec3 × Vec3 → Vec3 = λ pair. vector_way place pair.0 pair.1 in
    let from : List Vec3 = group values many place.from in
    let to : List Vec3 = group values many place.to in
    let few = ltb-true (length values) (2 ^ 32) b.0 in
    let shorter = zip-length vector3 way from to in
    let short = group_length values many place.from in
    and_true _ _ (lt-ltb _ _ (omega (arith, few, shorter, short)))
    (all-zip vector3 way (λ x y g h. vectors_stay place x y p g h) from to (group_fits values many place.from b.1) (group_fits values many place.to b.1))

vectors_between_fit : (keys : List ℤ) (values : List Vec3) (fraction : ℤ) (x : List Vec3) → (list_of vector3).fits values ≡ true → vectors_between keys values fraction ≡ Some x → (list_of vector3).fits x ≡ true
unfolding vectors_between
vectors_between_fit keys values fraction x f e = given (are_grouped keys values) e
  where
    given : (b : Bool) → (if b then option_map (groups_way values (length values / length keys)) (place_of keys fraction) else None) ≡ Some x → (list_of vector3).fits x ≡ true
    given false h = absurd cc
    given true h =
        let a = map_some (groups_way values (length values / length keys)) (place_of keys fraction) x h in
        subst (λ (y : List Vec3). (list_of vector3).fits y ≡ true) a.2 (groups_fit values (length values / length keys) a.0 (place_is keys fraction a.0 a.1) f)

-- ---- interpolators

pub scalar_fits : (keys : List ℤ) (values : Value) (fraction : ℤ) (x : Value) → value_fits types.MFFloat values ≡ true → interpolated ScalarInterpolator keys values fraction ≡ Some x → value_fits types.SFFloat x ≡ true
unfolding value_fits
scalar_fits keys (MFFloat numbers) fraction x f e =
    let a = map_some SFFloat _ x e in
    subst (λ (y : Value). value_fits types.SFFloat y ≡ true) a.2 (between_fits number number_way numbers_stay keys numbers fraction a.0 (both _ _ f).1 a.1)
scalar_fits keys _ fraction x f e = absurd cc

pub position_fits : (keys : List ℤ) (values : Value) (fraction : ℤ) (x : Value) → value_fits types.MFVec3f values ≡ true → interpolated PositionInterpolator keys values fraction ≡ Some x → value_fits types.SFVec3f x ≡ true
unfolding value_fits
position_fits keys (MFVec3f vectors) fraction x f e =
    let a = map_some SFVec3f _ x e in
    subst (λ (y : Value). value_fits types.SFVec3f y ≡ true) a.2 (between_fits vector3 vector_way vectors_stay keys vectors fraction a.0 (both _ _ f).1 a.1)
position_fits keys _ fraction x f e = absurd cc

pub point_fits : (keys : List ℤ) (values : Value) (fraction : ℤ) (x : Value) → value_fits types.MFVec2f values ≡ true → interpolated PositionInterpolator2D keys values fraction ≡ Some x → value_fits types.SFVec2f x ≡ true
unfolding value_fits
point_fits keys (MFVec2f points) fraction x f e =
    let a = map_some SFVec2f _ x e in
    subst (λ (y : Value). value_fits types.SFVec2f y ≡ true) a.2 (between_fits vector2 point_way points_stay keys points fraction a.0 (both _ _ f).1 a.1)
point_fits keys _ fraction x f e = absurd cc

pub coordinates_fit : (keys : List ℤ) (values : Value) (fraction : ℤ) (x : Value) → value_fits types.MFVec3f values ≡ true → interpolated CoordinateInterpolator keys values fraction ≡ Some x → value_fits types.MFVec3f x ≡ true
unfolding value_fits
coordinates_fit keys (MFVec3f vectors) fraction x f e =
    let a = map_some MFVec3f _ x e in
    subst (λ (y : Value). value_fits types.MFVec3f y ≡ true) a.2 (vectors_between_fit keys vectors fraction a.0 f a.1)
coordinates_fit keys _ fraction x f e = absurd cc
