-- The states of scripts have bytes.
use Rattle.std.proofs.Common.{◌≡◌, suc, ◌^◌, ◌≤◌, Bool, true, false, cond, leb, List, [], ◌∷◌, length, Some, None, refl, ap, arith}
use Rattle.std.specs.Prelude.{ℤ, pos, negsuc, ◌&&◌, is_none}
use Rattle.std.specs.Int.{w64}
use Rattle.std.specs.List.{list_all}
use Rattle.std.proofs.lemmas.Bool.{lt-ltb, ltb-true, leb-true, eq-eqb}
use Rattle.byte_codec.specs.Codec.{all_fit, fits_signed, signed}
use Rattle.byte_codec.proofs.Laws.{both, and_true}
use Rattle.snapshot_codec.specs.Parts.{state_codec, states_codec}
use Rattle.x3d_values.specs.Ranges.{coordinate_fits}
use Rattle.x3d_values.specs.declared.script.Kind.{Kind}
use Rattle.x3d_values.specs.declared.script.Kind.TheVariants.{Counter, Gate, Adder, Batch, Mover, Meter}
use Rattle.scene_core.specs.Scene.{SceneView}
use Rattle.script_host.specs.Events.{truth_fits}
use Rattle.script_host.specs.States.{state_fault, range_fault, integer_fits, pending_fits, place_fits, counter_fault, gate_fault, adder_fault, batch_fault, mover_fault}
use Rattle.script_slots.specs.declared.fault.StateFault.TheVariants.{StateLength}
use Rattle.cascade_core.specs.Installing.{StatesFit}
use Rattle.cascade_core.specs.Scripts.{kinds_in}
use Rattle.snapshot_core.specs.Loading.{states_fit}
use Rattle.snapshot_core.proofs.StateLaws.{all_fit as all_states_fit, is_nothing}

-- ---- numbers

integer_has : (z : ℤ) → integer_fits z ≡ true → fits_signed w64 z ≡ true
integer_has (pos n) e = lt-ltb _ _ (omega (arith, ltb-true n (2 ^ 31) e))
integer_has (negsuc n) e = lt-ltb _ _ (omega (arith, ltb-true n (2 ^ 31) e))

truth_has : (z : ℤ) → truth_fits z ≡ true → fits_signed w64 z ≡ true
truth_has (pos n) e = lt-ltb _ _ (omega (arith, ltb-true n 2 e))
truth_has (negsuc n) e = absurd cc

pending_has : (z : ℤ) → pending_fits z ≡ true → fits_signed w64 z ≡ true
pending_has (pos n) e = lt-ltb _ _ (omega (arith, ltb-true n (2 ^ 31) e))
pending_has (negsuc n) e = absurd cc

coordinate_has : (z : ℤ) → coordinate_fits z ≡ true → fits_signed w64 z ≡ true
coordinate_has (pos n) e = lt-ltb _ _ (omega (arith, leb-true n (10 ^ 15) e))
coordinate_has (negsuc n) e = lt-ltb _ _ (omega (arith, leb-true (suc n) (10 ^ 15) e))

-- ---- lists of them

abbrev in_bytes : List ℤ → Bool
in_bytes state = all_fit (signed w64) state

one_has : (a : ℤ) → fits_signed w64 a ≡ true → in_bytes (a ∷ []) ≡ true
one_has a p = and_true _ _ p refl

two_have : (a b : ℤ) → fits_signed w64 a ≡ true → fits_signed w64 b ≡ true → in_bytes (a ∷ b ∷ []) ≡ true
two_have a b p q = and_true _ _ p (one_has b q)

coordinates_have : (zs : List ℤ) → list_all coordinate_fits zs ≡ true → in_bytes zs ≡ true
coordinates_have [] e = refl
coordinates_have (z ∷ zs) e =
    let f = both (coordinate_fits z) (list_all coordinate_fits zs) e in
    and_true _ _ (coordinate_has z f.0) (coordinates_have zs f.1)

place_has : (x y z : ℤ) (zs : List ℤ) → place_fits x y z ≡ true → in_bytes zs ≡ true → in_bytes (x ∷ y ∷ z ∷ zs) ≡ true
place_has x y z zs e more =
    let f = both (coordinate_fits x) (coordinate_fits y && coordinate_fits z) e in
    let g = both (coordinate_fits y) (coordinate_fits z) f.1 in
    and_true _ _ (coordinate_has x f.0) (and_true _ _ (coordinate_has y g.0) (and_true _ _ (coordinate_has z g.1) more))

-- ---- the states of each kind

-- few numbers of 64 bits
abbrev IsSmall : List ℤ → Type 0
IsSmall state = (length state ≤ 8) × (in_bytes state ≡ true)

in_range : (b : Bool) → range_fault b ≡ None → b ≡ true
in_range true e = refl
in_range false e = absurd cc

counter_small : (state : List ℤ) → counter_fault state ≡ None → IsSmall state
counter_small (a ∷ b ∷ []) e =
    let f = both (integer_fits a) (integer_fits b) (in_range _ e) in
    (omega arith, two_have a b (integer_has a f.0) (integer_has b f.1))
counter_small _ e = absurd cc

gate_small : (state : List ℤ) → gate_fault state ≡ None → IsSmall state
gate_small (a ∷ []) e = (omega arith, one_has a (truth_has a (in_range _ e)))
gate_small _ e = absurd cc

adder_small : (state : List ℤ) → adder_fault state ≡ None → IsSmall state
adder_small (a ∷ b ∷ []) e =
    let f = both (coordinate_fits a) (coordinate_fits b) (in_range _ e) in
    (omega arith, two_have a b (coordinate_has a f.0) (coordinate_has b f.1))
adder_small _ e = absurd cc

batch_small : (state : List ℤ) → batch_fault state ≡ None → IsSmall state
batch_small (a ∷ []) e = (omega arith, one_has a (pending_has a (in_range _ e)))
batch_small _ e = absurd cc

mover_small : (state : List ℤ) → mover_fault state ≡ None → IsSmall state
mover_small (x ∷ y ∷ z ∷ x' ∷ y' ∷ z' ∷ []) e =
    let f = both (place_fits x y z) (place_fits x' y' z') (in_range _ e) in
    (omega arith, place_has x y z (x' ∷ y' ∷ z' ∷ []) f.0 (place_has x' y' z' [] f.1 refl))
mover_small _ e = absurd cc

meter_by : (readings : List ℤ) (t : Bool) → leb (length readings) 8 ≡ t → cond t (range_fault (list_all coordinate_fits readings)) (Some StateLength) ≡ None → IsSmall readings
meter_by readings true few e = (leb-true (length readings) 8 few, coordinates_have readings (in_range _ e))
meter_by readings false few e = absurd cc

small : (kind : Kind) (state : List ℤ) → state_fault kind state ≡ None → IsSmall state
small Counter state e = counter_small state e
small Gate state e = gate_small state e
small Adder state e = adder_small state e
small Batch state e = batch_small state e
small Mover state e = mover_small state e
small Meter state e = meter_by state (leb (length state) 8) refl e

state_has : (kind : Kind) (state : List ℤ) → state_fault kind state ≡ None → state_codec.fits state ≡ true
unfolding state_codec
state_has kind state e =
    let f = small kind state e in
    and_true _ _ (lt-ltb (length state) (2 ^ 32) (omega (arith, f.0))) f.1

-- ---- the states of all scripts

all_have : (kinds : List Kind) (states : List (List ℤ)) → states_fit kinds states ≡ true → (length states ≡ length kinds) × (all_fit state_codec states ≡ true)
all_have [] [] e = (refl, refl)
all_have [] (state ∷ states) e = absurd cc
all_have (kind ∷ kinds) [] e = absurd cc
all_have (kind ∷ kinds) (state ∷ states) e =
    let f = both (is_none (state_fault kind state)) (states_fit kinds states) e in
    let more = all_have kinds states f.1 in
    (ap suc more.0, and_true _ _ (state_has kind state (is_nothing (state_fault kind state) f.0)) more.1)

-- where there is a state for each script, their states have bytes
pub states_have : (scene : SceneView) (states : List (List ℤ)) → StatesFit scene states → (states_codec (length (kinds_in scene))).fits states ≡ true
states_have scene states fit =
    let f = all_have (kinds_in scene) states (all_states_fit scene states fit) in
    and_true _ _ (eq-eqb _ _ f.0) f.1
