-- What is read behind the fields of a node was written so, and what is written so is read.
use Rattle.std.proofs.Common.{◌≡◌, ℕ, ◌^◌, ◌<◌, Bool, true, false, eqb, List, [], ◌∷◌, length, Option, Some, None, refl, sym, ap, subst, ◌∙◌, arith, eq-eqb}
use Rattle.std.specs.Prelude.{◌&&◌, is_none, nat_lt}
use Rattle.std.specs.Int.{w32}
use Rattle.std.specs.List.{list_all}
use Rattle.std.specs.Option.{option_map, option_map_or}
use Rattle.std.proofs.lemmas.Bool.{eqb-true, lt-ltb, ltb-true}
use Rattle.byte_codec.specs.Codec.{all_fit, number}
use Rattle.byte_codec.specs.Exact.{IsExact, Took}
use Rattle.byte_codec.proofs.Laws.{some_is, both, and_true, refined_exact, named_exact, pair_exact, worded_exact}
use Rattle.x3d_values.specs.declared.fields.Position.{Position}
use Rattle.x3d_values.specs.declared.node_type.NodeType.{NodeType}
use Rattle.x3d_values.specs.declared.node_type.NodeType.TheVariants.{TimeSensor, TouchSensor, PlaneSensor, BooleanSequencer, IntegerSequencer}
use Rattle.x3d_values.specs.Ranges.{coordinates_fit, is_viewer, max_viewers}
use Rattle.snapshot_codec.specs.declared.plane.Drag.{Drag as DragBytes}
use Rattle.snapshot_codec.specs.declared.plane.Plane.{Plane as PlaneBytes}
use Rattle.snapshot_codec.specs.declared.viewers.Touch.{Touch as TouchBytes}
use Rattle.snapshot_codec.specs.declared.viewers.Viewers.TheVariants.{SixtyFour}
use Rattle.snapshot_codec.specs.Parts as parts
use Rattle.snapshot_codec.specs.Parts.{touch_codec, plane_codec, viewer_count, viewer_set_codec, presser_codec, presser_fits}
use Rattle.snapshot_codec.specs.Values.{vector3}
use Rattle.snapshot_codec.proofs.PartLaws.{cycle_exact, touch_exact, plane_exact, position_exact}
use Rattle.sensor_core.specs.Parts.{number_of, over_of, touch_of_parts}
use Rattle.sensor_core.specs.Touches as touches
use Rattle.sensor_core.specs.Touches.{TouchStateView}
use Rattle.sensor_plane.specs.declared.drag.Drag.{Drag}
use Rattle.sensor_plane.specs.declared.pointing.PointingState.{PointingState}
use Rattle.sensor_plane.specs.declared.pointing.PointingState.TheVariants as state
use Rattle.sensor_plane.specs.Paths.{path_fits}
use Rattle.sensor_plane.specs.PlaneParts.{drag_fits, plane_of_parts}
use Rattle.sensor_plane.specs.Planes as planes
use Rattle.sensor_plane.specs.Planes.{Plane}
use Rattle.sensor_plane.specs.Pointing.{is_no_sensor, plane_fits, pointing_fits, touch_fits}
use Rattle.snapshot_core.specs.declared.version.Version.{Version}
use Rattle.snapshot_core.specs.declared.version.Version.TheVariants.{One, Two, Three}
use Rattle.snapshot_core.specs.Opening.{newest, viewers_of}
use Rattle.snapshot_core.specs.Beside as n
use Rattle.snapshot_core.proofs.SetLaws.{few_bits, few_viewers, number_back, over_back, over_length, number_small}

-- ---- what has no bytes

always_exact : {A : Type 0} (x : A) (is_x : A → Bool) → is_x x ≡ true → ((y : A) → is_x y ≡ true → y ≡ x) → IsExact (n.always x is_x)
always_exact {A} x is_x yes_x only_x = record {
  takes = λ bytes y rest h e.
      let P : A × List ℕ → Type 0 = λ z. Took (n.always x is_x) bytes z.0 z.1 in
      let made : A × List ℕ = (x, bytes) in
      subst P {x = made} (some_is made (y, rest) e) (record { parts = refl; valid = yes_x });
  again = λ y rest fits. ap (λ (z : A). Some (z, rest)) (sym (only_x y fits));
}

never_exact : {A : Type 0} → IsExact {A = A} n.never
never_exact = record { takes = λ bytes x rest h e. absurd cc; again = λ x rest fits. absurd cc }

is_nothing : {A : Type 0} (o : Option A) → is_none o ≡ true → o ≡ None
is_nothing None e = refl
is_nothing (Some x) e = absurd cc

-- ---- a TimeSensor

time_exact : (t : NodeType) → IsExact (n.time_part t)
unfolding n.time_part
time_exact TimeSensor = cycle_exact
time_exact _ = always_exact None is_none refl is_nothing

-- ---- a TouchSensor

abbrev touched : List Bool → Option ℕ → TouchStateView
touched over presser = record { over = over; presser = presser }

-- a presser that a version has a number for is a viewer
viewer_presses : (version : Version) (presser : Option ℕ) → presser_fits (viewer_count (viewers_of version)) presser ≡ true → option_map_or is_viewer presser true ≡ true
viewer_presses version None fits = refl
viewer_presses version (Some viewer) fits = lt-ltb viewer max_viewers (omega (arith, ltb-true viewer (viewer_count (viewers_of version)) fits, few_viewers version))

touch_parts : (version : Version) (a : TouchBytes) → (touch_codec (viewers_of version)).fits a ≡ true → (a.over < 2 ^ max_viewers) × (option_map_or is_viewer a.presser true ≡ true)
unfolding touch_codec presser_codec
touch_parts version a fits =
    let f = both ((viewer_set_codec (viewers_of version)).fits a.over) ((presser_codec (viewers_of version)).fits a.presser) fits in
    (few_bits version a.over f.0, viewer_presses version a.presser f.1)

touch_in_is : (a : TouchBytes) → option_map_or is_viewer a.presser true ≡ true → n.touch_in a ≡ Some (touched (over_of a.over) a.presser)
unfolding touch_of_parts
touch_in_is a ok = rw ok refl

pointers_exact : (version : Version) → IsExact (n.pointers_codec version)
unfolding n.pointers_codec
pointers_exact version = refined_exact n.touch_in n.touch_bytes (n.touch_has_bytes version) (touch_codec (viewers_of version)) (record {
  back = λ a b fits e.
      let f = touch_parts version a fits in
      let P : TouchStateView → Type 0 = λ t. (n.touch_bytes t ≡ a) × (n.touch_has_bytes version t ≡ true) in
      let same : n.touch_bytes (touched (over_of a.over) a.presser) ≡ a = ap (λ k. let t : TouchBytes = record { over = k; presser = a.presser } in t) (number_back a.over f.0) in
      let whole : touch_fits (state.Touch (touched (over_of a.over) a.presser)) ≡ true = and_true _ _ (eq-eqb _ _ (over_length a.over)) f.1 in
      subst P (some_is (touched (over_of a.over) a.presser) b (sym (touch_in_is a f.1) ∙ e))
      (same, and_true _ _ whole (ap (λ (t : TouchBytes). (touch_codec (viewers_of version)).fits t) same ∙ fits));
  forth = λ b ok.
      let f = both (touch_fits (state.Touch b)) ((touch_codec (viewers_of version)).fits (n.touch_bytes b)) ok in
      let g = both (eqb (length b.over) max_viewers) (option_map_or is_viewer b.presser true) f.0 in
      (f.1, touch_in_is (n.touch_bytes b) g.1 ∙ ap (λ (set : List Bool). Some (touched set b.presser)) (over_back b.over (eqb-true _ _ g.0)));
}) (touch_exact (viewers_of version))

-- ---- a PlaneSensor

abbrev some : {A : Type 0} → A → Option A
some x = Some x

abbrev planed : List Bool → Option Drag → Plane
planed over drag = record { over = over; drag = drag }

back_and_forth : (drag : Option Drag) → option_map n.drag_in (option_map n.drag_bytes drag) ≡ drag
back_and_forth None = refl
back_and_forth (Some drag) = refl

forth_and_back : (drag : Option DragBytes) → option_map n.drag_bytes (option_map n.drag_in drag) ≡ drag
forth_and_back None = refl
forth_and_back (Some drag) = refl

all_in_32 : (path : List ℕ) → list_all (λ p. nat_lt p (2 ^ 32)) path ≡ true → all_fit (number w32) path ≡ true
all_in_32 [] e = refl
all_in_32 (p ∷ path) e =
    let f = both (nat_lt p (2 ^ 32)) (list_all (λ p. nat_lt p (2 ^ 32)) path) e in
    and_true _ _ f.0 (all_in_32 path f.1)

path_has : (path : List ℕ) → path_fits path ≡ true → parts.path_codec.fits path ≡ true
unfolding parts.path_codec
path_has path e =
    let f = both _ (list_all (λ p. nat_lt p (2 ^ 32)) path) e in
    and_true _ _ f.0 (all_in_32 path f.1)

-- a drag in its ranges has bytes
drag_has : (drag : Option Drag) → drag_fits drag ≡ true → parts.drag_codec.fits (option_map n.drag_bytes drag) ≡ true
unfolding parts.drag_codec presser_codec parts.held_codec vector3
drag_has None e = refl
drag_has (Some drag) e =
    let f = both (is_viewer drag.presser && path_fits drag.path) (coordinates_fit drag.start && coordinates_fit drag.last) e in
    let g = both (is_viewer drag.presser) (path_fits drag.path) f.0 in
    let h = both (coordinates_fit drag.start) (coordinates_fit drag.last) f.1 in
    and_true _ _ g.0 (and_true _ _ h.0 (and_true _ _ h.1 (path_has drag.path g.1)))

plane_by : (a : PlaneBytes) (b : Plane) (t : Bool) → drag_fits (option_map n.drag_in a.drag) ≡ t → a.over < 2 ^ max_viewers → n.plane_in a ≡ Some b → (n.plane_bytes b ≡ a) × (plane_fits (state.Plane b) ≡ true)
unfolding plane_of_parts
plane_by a b true is small e =
    let made : Plane = planed (over_of a.over) (option_map n.drag_in a.drag) in
    let read : n.plane_in a ≡ Some made = rw is refl in
    let P : Plane → Type 0 = λ p. (n.plane_bytes p ≡ a) × (plane_fits (state.Plane p) ≡ true) in
    let bytes : ℕ → Option DragBytes → PlaneBytes = λ k drag. record { over = k; drag = drag } in
    subst P (some_is made b (sym read ∙ e)) (
      ap (λ (k : ℕ). bytes k (option_map n.drag_bytes (option_map n.drag_in a.drag))) (number_back a.over small)
          ∙ ap (λ (drag : Option DragBytes). bytes a.over drag) (forth_and_back a.drag),
      and_true _ _ (eq-eqb _ _ (over_length a.over)) is,
    )
plane_by a b false is small e =
    let none : n.plane_in a ≡ None = rw is refl in
    let other : None ≡ some b = sym none ∙ e in
    absurd cc

plane_again : (b : Plane) → plane_fits (state.Plane b) ≡ true → (plane_codec.fits (n.plane_bytes b) ≡ true) × (n.plane_in (n.plane_bytes b) ≡ Some b)
unfolding plane_codec viewer_set_codec plane_of_parts
plane_again b ok =
    let f = both (eqb (length b.over) max_viewers) (drag_fits b.drag) ok in
    let len : length b.over ≡ max_viewers = eqb-true _ _ f.0 in
    let small : number_of b.over < 2 ^ max_viewers = number_small b.over len in
    let back = back_and_forth b.drag in
    let fits : drag_fits (option_map n.drag_in (option_map n.drag_bytes b.drag)) ≡ true = ap drag_fits back ∙ f.1 in
    let made : Plane = planed (over_of (number_of b.over)) (option_map n.drag_in (option_map n.drag_bytes b.drag)) in
    let read : n.plane_in (n.plane_bytes b) ≡ Some made = rw fits refl in (
      and_true _ _ (lt-ltb _ _ small) (drag_has b.drag f.1),
      read ∙ ap (λ (set : List Bool). some (planed set (option_map n.drag_in (option_map n.drag_bytes b.drag)))) (over_back b.over len)
          ∙ ap (λ (drag : Option Drag). some (planed b.over drag)) back,
    )

plane_small : (a : PlaneBytes) → plane_codec.fits a ≡ true → a.over < 2 ^ max_viewers
unfolding plane_codec viewer_set_codec
plane_small a fits = ltb-true a.over (2 ^ 64) (both ((viewer_set_codec SixtyFour).fits a.over) (parts.drag_codec.fits a.drag) fits).0

drags_exact : IsExact n.drags_codec
unfolding n.drags_codec
drags_exact = refined_exact n.plane_in n.plane_bytes (λ plane. plane_fits (state.Plane plane)) plane_codec (record {
  back = λ a b fits e. plane_by a b (drag_fits (option_map n.drag_in a.drag)) refl (plane_small a fits) e;
  forth = plane_again;
}) plane_exact

-- ---- where viewers point

abbrev touch_in_it : PointingState → TouchStateView
touch_in_it (state.Touch touch) = touch
touch_in_it _ = touches.untouched

abbrev plane_in_it : PointingState → Plane
plane_in_it (state.Plane plane) = plane
plane_in_it _ = planes.untouched

touch_again : (version : Version) (s : PointingState) → n.has_touch_text version s ≡ true → (n.touch_has_bytes version (touch_in_it s) ≡ true) × (some (state.Touch (touch_in_it s)) ≡ some s) × (n.touch_text version s ≡ (n.pointers_codec version).write (touch_in_it s))
touch_again version state.NoSensor ok = absurd cc
touch_again version (state.Touch touch) ok = (ok, refl, refl)
touch_again version (state.Plane plane) ok = absurd cc

touch_part_exact : (version : Version) → IsExact (n.touch_part version)
unfolding n.touch_part n.pointers_codec
touch_part_exact version = worded_exact (n.touch_text version) (λ touch. Some (state.Touch touch)) touch_in_it (n.has_touch_text version) (n.pointers_codec version) (record {
  back = λ a b fits e.
      let made : PointingState = state.Touch a in
      let P : PointingState → Type 0 = λ s. (touch_in_it s ≡ a) × (n.has_touch_text version s ≡ true) in
      subst P (some_is made b e) (refl, fits);
  forth = λ b ok. let f = touch_again version b ok in (f.0, f.1);
}) (λ b ok. (touch_again version b ok).2) (pointers_exact version)

held_again : (s : PointingState) → plane_fits s ≡ true → (plane_fits (state.Plane (plane_in_it s)) ≡ true) × (some (state.Plane (plane_in_it s)) ≡ some s) × (n.plane_text s ≡ n.drags_codec.write (plane_in_it s))
held_again state.NoSensor ok = absurd cc
held_again (state.Touch touch) ok = absurd cc
held_again (state.Plane plane) ok = (ok, refl, refl)

plane_state_exact : IsExact n.plane_state
unfolding n.drags_codec
plane_state_exact = worded_exact n.plane_text (λ plane. Some (state.Plane plane)) plane_in_it plane_fits n.drags_codec (record {
  back = λ a b fits e.
      let made : PointingState = state.Plane a in
      let P : PointingState → Type 0 = λ s. (plane_in_it s ≡ a) × (plane_fits s ≡ true) in
      subst P (some_is made b e) (refl, fits);
  forth = λ b ok. let f = held_again b ok in (f.0, f.1);
}) (λ b ok. (held_again b ok).2) drags_exact

plane_part_exact : (version : Version) → IsExact (n.plane_part version)
unfolding n.plane_part
plane_part_exact One = never_exact
plane_part_exact Two = plane_state_exact
plane_part_exact Three = plane_state_exact

only_no_sensor : (s : PointingState) → is_no_sensor s ≡ true → s ≡ state.NoSensor
only_no_sensor state.NoSensor e = refl
only_no_sensor (state.Touch touch) e = absurd cc
only_no_sensor (state.Plane plane) e = absurd cc

pointing_exact : (version : Version) (t : NodeType) → IsExact (n.pointing_part version t)
unfolding n.pointing_part
pointing_exact version TouchSensor = touch_part_exact version
pointing_exact version PlaneSensor = plane_part_exact version
pointing_exact version _ = always_exact state.NoSensor is_no_sensor refl only_no_sensor

-- ---- a sequencer

abbrev at : Option ℕ → Position
at place = record { at = place }

only_none : (p : Position) → is_none p.at ≡ true → p ≡ at None
only_none p e = ap at (is_nothing p.at e)

position_part_exact : (t : NodeType) → IsExact (n.position_part t)
unfolding n.position_part
position_part_exact BooleanSequencer = position_exact
position_part_exact IntegerSequencer = position_exact
position_part_exact _ = always_exact (at None) (λ position. is_none position.at) refl only_none

-- ---- a node

pub beside_exact : (version : Version) (t : NodeType) → IsExact (n.beside_codec version t)
unfolding n.beside_codec
beside_exact version t = named_exact _ _ _ (λ a. refl) (λ b. refl) (pair_exact _ _ (time_exact t) (pair_exact _ _ (pointing_exact version t) (position_part_exact t)))

-- ---- the newest version has bytes for all that a world may keep

all_press : (presser : Option ℕ) → option_map_or is_viewer presser true ≡ true → presser_fits (viewer_count (viewers_of newest)) presser ≡ true
all_press None fits = refl
all_press (Some viewer) fits = fits

newest_touch : (touch : TouchStateView) → touch_fits (state.Touch touch) ≡ true → n.touch_has_bytes newest touch ≡ true
unfolding touch_codec viewer_set_codec presser_codec
newest_touch touch fits =
    let f = both (eqb (length touch.over) max_viewers) (option_map_or is_viewer touch.presser true) fits in
    let small : number_of touch.over < 2 ^ max_viewers = number_small touch.over (eqb-true _ _ f.0) in
    and_true _ _ fits (and_true _ _ (lt-ltb _ _ small) (all_press touch.presser f.1))

touch_newest : (s : PointingState) → pointing_fits TouchSensor s ≡ true → n.has_touch_text newest s ≡ true
touch_newest state.NoSensor fits = absurd cc
touch_newest (state.Touch touch) fits = newest_touch touch fits
touch_newest (state.Plane plane) fits = absurd cc

pub newest_pointing : (t : NodeType) (s : PointingState) → pointing_fits t s ≡ true → (n.pointing_part newest t).fits s ≡ true
unfolding n.pointing_part n.touch_part n.plane_part
newest_pointing TouchSensor s fits = touch_newest s fits
newest_pointing PlaneSensor s fits = fits
newest_pointing _ s fits = fits

-- and what has bytes in a version is such

touch_fitting : (version : Version) (s : PointingState) → n.has_touch_text version s ≡ true → pointing_fits TouchSensor s ≡ true
touch_fitting version state.NoSensor fits = absurd cc
touch_fitting version (state.Touch touch) fits = (both (touch_fits (state.Touch touch)) _ fits).0
touch_fitting version (state.Plane plane) fits = absurd cc

plane_fitting : (version : Version) (s : PointingState) → (n.plane_part version).fits s ≡ true → plane_fits s ≡ true
unfolding n.plane_part
plane_fitting One s fits = absurd cc
plane_fitting Two s fits = fits
plane_fitting Three s fits = fits

pub pointing_fitting : (version : Version) (t : NodeType) (s : PointingState) → (n.pointing_part version t).fits s ≡ true → pointing_fits t s ≡ true
unfolding n.pointing_part n.touch_part
pointing_fitting version TouchSensor s fits = touch_fitting version s fits
pointing_fitting version PlaneSensor s fits = plane_fitting version s fits
pointing_fitting version _ s fits = fits
