-- What is read of a node's parts and of scripts was written so, and what is written so is read.
use Rattle.std.proofs.Common.{◌≡◌, ℕ, zero, suc, ◌^◌, ◌<◌, ◌≤◌, ◌-◌, Bool, true, false, cond, eqb, ltb, List, ◌++◌, length, Option, Some, None, refl, sym, ap, subst, ◌∙◌, append_assoc, arith}
use Rattle.std.specs.Prelude.{◌≢◌, ℤ, pos, negsuc, int_lt, nat_le}
use Rattle.std.specs.Int.{w16, w32, w64}
use Rattle.std.specs.List.{flat_map}
use Rattle.std.proofs.lemmas.Bool.{eqb-true, eqb-false, leb-true, le-ltb, lt-ltb, ltb-true, ne_eqb, cond-false, cond-true}
use Rattle.byte_codec.specs.Codec.{Codec, all_fit, many_at, refined, byte, number, signed, truth, fits_signed, pair}
use Rattle.byte_codec.specs.Exact.{IsBytes, IsExact, Took}
use Rattle.byte_codec.proofs.Laws.{after, and_true, bind_some, joined, some_is, both, refined_exact, named_exact, pair_exact, byte_exact, number_exact, wide16, wide32, wide64, truth_exact, signed64_exact}
use Rattle.byte_codec.proofs.LawsOfLists.{many_again, many_takes, times_exact}
use Rattle.x3d_values.specs.declared.fields.Position.{Position}
use Rattle.snapshot_codec.specs.declared.plane.Drag.{Drag}
use Rattle.snapshot_codec.specs.declared.plane.Plane.{Plane}
use Rattle.snapshot_codec.specs.declared.viewers.Viewers.{Viewers}
use Rattle.snapshot_codec.specs.declared.viewers.Viewers.TheVariants.{Sixteen, SixtyFour}
use Rattle.snapshot_codec.specs.declared.viewers.Touch.{Touch}
use Rattle.snapshot_codec.specs.Parts.{cycle_in, cycle_parts, cycle_fits, cycle_codec, viewer_set_codec, presser_in, presser_byte, presser_fits, presser_codec, touch_codec, path_length, path_codec, held_codec, held_of, drag_with, drag_behind, drag_codec, plane_codec, position_in, place_number, place_fits, position_codec, state_codec, states_codec}
use Rattle.snapshot_codec.proofs.ValueLaws.{list_exact, restricted_exact, vector3_exact}

abbrev some : {A : Type 0} → A → Option A
some x = Some x

-- ---- cycles

not_below : (n : ℕ) → int_lt (pos n) (pos 0) ≡ false
not_below n = le-ltb n 0 (omega arith)

cycle_back : (t : Bool) (z : ℤ) (b : Option ℕ) → fits_signed w64 z ≡ true → cycle_in (t, z) ≡ some b → (cycle_parts b ≡ (t, z)) × (cycle_fits b ≡ true)
cycle_back t (negsuc n) b fits e = absurd cc
cycle_back true (pos n) b fits e =
    let h : some (some n) ≡ some b = sym (cond-false (int_lt (pos n) (pos 0)) None (some (some n)) (not_below n)) ∙ e in
    subst (λ (o : Option ℕ). (cycle_parts o ≡ (true, pos n)) × (cycle_fits o ≡ true)) (some_is (some n) b h) (refl, fits)
cycle_back false (pos zero) b fits e =
    let h : some None ≡ some b = e in
    subst (λ (o : Option ℕ). (cycle_parts o ≡ (false, pos 0)) × (cycle_fits o ≡ true)) (some_is None b h) (refl, refl)
cycle_back false (pos (suc n)) b fits e =
    let none : Option (Option ℕ) = None in
    let h : cond (eqb (suc n) 0) (some None) none ≡ some b = sym (cond-false (int_lt (pos (suc n)) (pos 0)) none (cond (eqb (suc n) 0) (some None) none) (not_below (suc n))) ∙ e in
    let k : none ≡ some b = sym (cond-false (eqb (suc n) 0) (some None) none (ne_eqb (suc n) 0 (λ same. omega arith))) ∙ h in
    absurd cc

cycle_forth : (b : Option ℕ) → cycle_fits b ≡ true → ((pair truth (signed w64)).fits (cycle_parts b) ≡ true) × (cycle_in (cycle_parts b) ≡ some b)
cycle_forth None ok = (refl, refl)
cycle_forth (Some n) ok = (ok, cond-false (int_lt (pos n) (pos 0)) None (some (some n)) (not_below n))

pub cycle_exact : IsExact cycle_codec
unfolding cycle_codec
cycle_exact = refined_exact cycle_in cycle_parts cycle_fits (pair truth (signed w64)) (record {
  back = λ a b fits e. cycle_back a.0 a.1 b (both true (fits_signed w64 a.1) fits).1 e;
  forth = cycle_forth;
}) (pair_exact _ _ truth_exact signed64_exact)

-- ---- viewers

pub viewer_set_exact : (viewers : Viewers) → IsExact (viewer_set_codec viewers)
unfolding viewer_set_codec
viewer_set_exact Sixteen = number_exact w16 wide16
viewer_set_exact SixtyFour = number_exact w64 wide64

presser_by : (count n : ℕ) (b : Option ℕ) (t u : Bool) → eqb n 255 ≡ t → ltb n count ≡ u → cond t (some None) (cond u (some (some n)) None) ≡ some b → (presser_byte b ≡ n) × (presser_fits count b ≡ true)
presser_by count n b true u is lt e = subst (λ (o : Option ℕ). (presser_byte o ≡ n) × (presser_fits count o ≡ true)) (some_is None b e) (sym (eqb-true n 255 is), refl)
presser_by count n b false true is lt e = subst (λ (o : Option ℕ). (presser_byte o ≡ n) × (presser_fits count o ≡ true)) (some_is (some n) b e) (refl, lt)
presser_by count n b false false is lt e = absurd cc

presser_forth : (count : ℕ) → count ≤ 255 → (b : Option ℕ) → presser_fits count b ≡ true → (byte.fits (presser_byte b) ≡ true) × (presser_in count (presser_byte b) ≡ some b)
presser_forth count small None ok = (refl, refl)
presser_forth count small (Some n) ok =
    let below : n < count = ltb-true n count ok in
    (lt-ltb n 256 (omega arith), cond-false (eqb n 255) (some None) (cond (ltb n count) (some (some n)) None) (ne_eqb n 255 (λ same. omega arith)) ∙ cond-true (ltb n count) (some (some n)) None ok)

presser_among : (count : ℕ) → count ≤ 255 → IsExact (refined (presser_in count) presser_byte (presser_fits count) byte)
presser_among count small = refined_exact (presser_in count) presser_byte (presser_fits count) byte (record {
  back = λ a b fits e. presser_by count a b (eqb a 255) (ltb a count) refl refl e;
  forth = presser_forth count small;
}) byte_exact

pub presser_exact : (viewers : Viewers) → IsExact (presser_codec viewers)
unfolding presser_codec
presser_exact Sixteen = presser_among 16 (omega arith)
presser_exact SixtyFour = presser_among 64 (omega arith)

pub touch_exact : (viewers : Viewers) → IsExact (touch_codec viewers)
unfolding touch_codec
touch_exact viewers = named_exact (λ (t : ℕ × Option ℕ). let s : Touch = record { over = t.0; presser = t.1 } in s) (λ s. (s.over, s.presser)) _ (λ a. refl) (λ b. refl) (pair_exact _ _ (viewer_set_exact viewers) (presser_exact viewers))

-- ---- PlaneSensors

path_length_exact : IsExact path_length
path_length_exact = restricted_exact (λ n. nat_le n 64) byte (λ n e. lt-ltb n 256 (omega (arith, leb-true n 64 e))) byte_exact

path_exact : IsExact path_codec
unfolding path_codec
path_exact = record {
  takes = λ bytes xs rest h e.
      let a = bind_some (path_length.read bytes) (λ n. many_at (number w32) n.0 n.1) (xs, rest) e in
      let t = path_length_exact.takes bytes a.0.0 a.0.1 h a.1 in
      let u = many_takes (number w32) (number_exact w32 wide32) a.0.0 a.0.1 xs rest (after path_length bytes a.0.0 a.0.1 h t) a.2 in
      record {
        parts = joined bytes (path_length.write (length xs)) a.0.1 (flat_map (number w32).write xs) rest (t.parts ∙ ap (λ (n : ℕ). path_length.write n ++ a.0.1) (sym u.1)) u.0;
        valid = and_true _ _ (rw u.1 t.valid) u.2;
      };
  again = λ xs rest fits.
      let f = both (path_length.fits (length xs)) (all_fit (number w32) xs) fits in
      ap path_codec.read (append_assoc (path_length.write (length xs)) (flat_map (number w32).write xs) rest)
      ∙ rw (path_length_exact.again (length xs) (flat_map (number w32).write xs ++ rest) f.0) (many_again (number w32) (number_exact w32 wide32) xs rest f.1);
}

held_exact : IsExact held_codec
unfolding held_codec
held_exact = pair_exact _ _ vector3_exact (pair_exact _ _ vector3_exact path_exact)

abbrev among : Codec (Option ℕ)
among = presser_codec SixtyFour

drag_takes : (bytes : List ℕ) (presser : Option ℕ) (middle : List ℕ) (drag : Option Drag) (rest : List ℕ) → IsBytes middle → bytes ≡ among.write presser ++ middle → among.fits presser ≡ true → drag_behind presser middle ≡ Some (drag, rest) → Took drag_codec bytes drag rest
unfolding drag_codec
drag_takes bytes None middle drag rest h front fits e =
    let made : Option Drag × List ℕ = (None, middle) in
    let P : Option Drag × List ℕ → Type 0 = λ z. Took drag_codec bytes z.0 z.1 in
    subst P {x = made} (some_is made (drag, rest) e) (record { parts = front; valid = refl })
drag_takes bytes (Some presser) middle drag rest h front fits e =
    let a = bind_some (held_codec.read middle) (λ x. Some (Some (drag_with presser x.0), x.1)) (drag, rest) e in
    let t = held_exact.takes middle a.0.0 a.0.1 h a.1 in
    let made : Option Drag × List ℕ = (Some (drag_with presser a.0.0), a.0.1) in
    let P : Option Drag × List ℕ → Type 0 = λ z. Took drag_codec bytes z.0 z.1 in
    subst P {x = made} (some_is made (drag, rest) a.2) (record {
      parts = joined bytes (among.write (Some presser)) middle (held_codec.write a.0.0) a.0.1 front t.parts;
      valid = and_true _ _ fits t.valid;
    })

nobody_fits : among.fits None ≡ true
unfolding presser_codec
nobody_fits = refl

drag_again : (drag : Option Drag) (rest : List ℕ) → drag_codec.fits drag ≡ true → drag_codec.read (drag_codec.write drag ++ rest) ≡ some (drag, rest)
unfolding drag_codec
drag_again None rest fits = rw ((presser_exact SixtyFour).again None rest nobody_fits) refl
drag_again (Some drag) rest fits =
    let f = both (among.fits (Some drag.presser)) (held_codec.fits (held_of drag)) fits in
    ap drag_codec.read (append_assoc (among.write (Some drag.presser)) (held_codec.write (held_of drag)) rest)
    ∙ rw ((presser_exact SixtyFour).again (Some drag.presser) (held_codec.write (held_of drag) ++ rest) f.0, held_exact.again (held_of drag) rest f.1) refl

drag_exact : IsExact drag_codec
unfolding drag_codec
drag_exact = record {
  takes = λ bytes drag rest h e.
      let a = bind_some (among.read bytes) (λ x. drag_behind x.0 x.1) (drag, rest) e in
      let t = (presser_exact SixtyFour).takes bytes a.0.0 a.0.1 h a.1 in
      drag_takes bytes a.0.0 a.0.1 drag rest (after among bytes a.0.0 a.0.1 h t) t.parts t.valid a.2;
  again = drag_again;
}

pub plane_exact : IsExact plane_codec
unfolding plane_codec
plane_exact = named_exact (λ (t : ℕ × Option Drag). let p : Plane = record { over = t.0; drag = t.1 } in p) (λ p. (p.over, p.drag)) _ (λ a. refl) (λ b. refl) (pair_exact _ _ (viewer_set_exact SixtyFour) drag_exact)

-- ---- positions

position_by : (n : ℕ) (b : Position) (t : Bool) → ltb n (2 ^ 32) ≡ true → eqb n (2 ^ 32 - 1) ≡ t → cond t (some (record { at = None })) (some (record { at = some n })) ≡ some b → (place_number b.at ≡ n) × (place_fits b.at ≡ true)
position_by n b true fits is e =
    let made : Position = record { at = None } in
    subst (λ (p : Position). (place_number p.at ≡ n) × (place_fits p.at ≡ true)) (some_is made b e) (sym (eqb-true n (2 ^ 32 - 1) is), refl)
position_by n b false fits is e =
    let made : Position = record { at = some n } in
    let other : n ≢ 2 ^ 32 - 1 = eqb-false n (2 ^ 32 - 1) is in
    subst (λ (p : Position). (place_number p.at ≡ n) × (place_fits p.at ≡ true)) (some_is made b e) (refl, lt-ltb n (2 ^ 32 - 1) (omega (arith, ltb-true n (2 ^ 32) fits)))

position_forth : (b : Option ℕ) → place_fits b ≡ true → ((number w32).fits (place_number b) ≡ true) × (position_in (place_number b) ≡ some (record { at = b }))
position_forth None ok = (refl, refl)
position_forth (Some n) ok =
    let below : n < 2 ^ 32 - 1 = ltb-true n (2 ^ 32 - 1) ok in
    let none : Position = record { at = None } in
    let made : Position = record { at = some n } in
    (lt-ltb n (2 ^ 32) (omega arith), cond-false (eqb n (2 ^ 32 - 1)) (some none) (some made) (ne_eqb n (2 ^ 32 - 1) (λ same. omega arith)))

pub position_exact : IsExact position_codec
unfolding position_codec
position_exact = refined_exact position_in (λ p. place_number p.at) (λ p. place_fits p.at) (number w32) (record {
  back = λ a b fits e. position_by a b (eqb a (2 ^ 32 - 1)) fits refl e;
  forth = λ b ok. position_forth b.at ok;
}) (number_exact w32 wide32)

-- ---- scripts

pub state_exact : IsExact state_codec
unfolding state_codec
state_exact = list_exact signed64_exact

pub states_exact : (count : ℕ) → IsExact (states_codec count)
states_exact count = times_exact count state_codec state_exact
