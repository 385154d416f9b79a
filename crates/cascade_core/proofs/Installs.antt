-- States that a stage is given, and boxes that take the place of others: what scripts refuse goes by
-- their kinds alone.
use Rattle.std.proofs.Common.{◌≡◌, ◌≢◌, ◌⊎◌, ℕ, ℤ, List, [], ◌∷◌, Option, Some, None, inl, inr, zero, suc, refl, ap, subst, sym, ◌∙◌, arith, length}
use Rattle.std.specs.Prelude.{IsSomeAnd, slice_get}
use Rattle.std.proofs.lemmas.List.{length-map}
use Rattle.x3d_values.specs.declared.script.Kind.{Kind}
use Rattle.script_host.specs.Attaching.{RefusesPlace}
use Rattle.script_host.specs.Hosting.{SlotView}
use Rattle.script_host.specs.Restoring.{AreStates, IsFirstFault, RefusesStates}
use Rattle.script_host.specs.States.{state_fault}
use Rattle.script_host.specs.declared.fault.ReplaceFault.{ReplaceFault}
use Rattle.script_host.specs.declared.fault.ReplaceFault.TheVariants as place
use Rattle.script_slots.specs.declared.fault.StateFault.{StateFault}
use Rattle.script_slots.specs.declared.fault.StateFault.TheVariants.{StateLength, StateRange, Memory}
use Rattle.script_running.specs.Acting.{kinds_of}
use Rattle.scene_core.specs.declared.scene.Route.{Route}
use Rattle.scene_core.specs.Scene.{SceneView}
use Rattle.cascade_world.specs.declared.world.WorldData.{WorldData}
use Rattle.cascade_core.specs.Held.{Held, Running, Spoiled, StageView, applied_of, held_of, holding, spoiled}
use Rattle.cascade_core.specs.Installing.{RefusesBox, RefusesInstall}
use Rattle.cascade_core.specs.Placing.{place_fault_of}
use Rattle.cascade_core.specs.Scripts.{kinds_in, running, scripts_in, states_of}
use Rattle.script_running.proofs.Initialized.{running_states}
use Rattle.cascade_core.proofs.SoundLemmas.{has_scripts_still}

lengths : (xs ys : List SlotView) → kinds_of xs ≡ kinds_of ys → length xs ≡ length ys
lengths xs ys e = sym (length-map xs (λ (r : SlotView). r.kind)) ∙ ap length e ∙ length-map ys (λ (r : SlotView). r.kind)

-- what goes by the kind of the script at a place goes by the kinds of all
at-kind : (P : Kind → Type 0) (xs ys : List SlotView) (k : ℕ) → kinds_of xs ≡ kinds_of ys → IsSomeAnd (slice_get xs k) (λ r. P r.kind) → IsSomeAnd (slice_get ys k) (λ r. P r.kind)
at-kind P [] ys k e h = absurd h
at-kind P (x ∷ xs) [] k e h = cc
at-kind P (x ∷ xs) (y ∷ ys) zero e h =
    let same : x.kind ≡ y.kind = cc in subst P same h
at-kind P (x ∷ xs) (y ∷ ys) (suc k) e h =
    let same : kinds_of xs ≡ kinds_of ys = cc in at-kind P xs ys k same h

none-at : (xs ys : List SlotView) (k : ℕ) → kinds_of xs ≡ kinds_of ys → slice_get xs k ≡ None → slice_get ys k ≡ None
none-at [] [] k e h = refl
none-at [] (y ∷ ys) k e h = cc
none-at (x ∷ xs) [] k e h = cc
none-at (x ∷ xs) (y ∷ ys) zero e h = cc
none-at (x ∷ xs) (y ∷ ys) (suc k) e h =
    let same : kinds_of xs ≡ kinds_of ys = cc in none-at xs ys k same h

-- ---- states

module _ (xs ys : List SlotView) (e : kinds_of xs ≡ kinds_of ys) (states : List (List ℤ)) where
  pub states_alike : AreStates xs states → AreStates ys states
  states_alike h = record {
    count = sym (lengths xs ys e) ∙ h.count;
    fit = λ j below.
        at-kind (λ kind. IsSomeAnd (slice_get states j) (λ state. state_fault kind state ≡ None)) xs ys j e (h.fit j (omega (arith, below, lengths xs ys e)));
  }

  first-alike : (fault : StateFault) → IsFirstFault fault xs states → IsFirstFault fault ys states
  first-alike fault h = record {
    count = sym (lengths xs ys e) ∙ h.count;
    at = h.at;
    before = λ j below. at-kind (λ kind. IsSomeAnd (slice_get states j) (λ state. state_fault kind state ≡ None)) xs ys j e (h.before j below);
    here = at-kind (λ kind. IsSomeAnd (slice_get states h.at) (λ state. state_fault kind state ≡ Some fault)) xs ys h.at e h.here;
  }

  length-differs : (length xs ≢ length states) ⊎ IsFirstFault StateLength xs states → (length ys ≢ length states) ⊎ IsFirstFault StateLength ys states
  length-differs (inl differs) = inl (λ same. differs (lengths xs ys e ∙ same))
  length-differs (inr first) = inr (first-alike StateLength first)

-- the first that isn't a state of its script
pub first_alike : (fault : StateFault) (xs ys : List SlotView) (states : List (List ℤ)) → IsFirstFault fault xs states → kinds_of xs ≡ kinds_of ys → IsFirstFault fault ys states
first_alike fault xs ys states h e = first-alike xs ys e states fault h

-- what stands where states are refused before anything changes
pub install_length : (old new : StageView) (rs after : List SlotView) (states : List (List ℤ)) → kinds_of rs ≡ kinds_in old.scene →
    RefusesStates StateLength rs states after → new ≡ old → RefusesInstall StateLength old states new
install_length old new rs after states e h same = (same, length-differs rs (scripts_in old.scene) e states h.1)

pub install_range : (old new : StageView) (rs after : List SlotView) (states : List (List ℤ)) → kinds_of rs ≡ kinds_in old.scene →
    RefusesStates StateRange rs states after → new ≡ old → RefusesInstall StateRange old states new
install_range old new rs after states e h same = (same, first-alike rs (scripts_in old.scene) e states StateRange h.1)

-- and where memory is refused
pub install_memory : (old new : StageView) (rs after : List SlotView) (states : List (List ℤ)) → kinds_of rs ≡ kinds_in old.scene →
    RefusesStates Memory rs states after → new ≡ spoiled old → RefusesInstall Memory old states new
install_memory old new rs after states e h is = (states_alike rs (scripts_in old.scene) e states h.0, is)

-- the states that scripts were given
pub given_states : (rs after : List SlotView) (states : List (List ℤ)) → AreStates rs states → after ≡ running (kinds_of rs) states → states_of after ≡ states
given_states rs after states are is =
    ap states_of is ∙ running_states (kinds_of rs) states (length-map rs (λ (r : SlotView). r.kind) ∙ are.count)

-- ---- a stage of these parts

abbrev seen_as : SceneView → List Route → Option ℕ → WorldData → List SlotView → StageView
seen_as scene routes mark w scripts = record { scene = scene; routes = routes; held = held_of mark (record { world = w; states = states_of scripts }) }

module _ (old : StageView) (scene : SceneView) (routes : List Route) (mark : Option ℕ) (w : WorldData) (rs after : List SlotView) (states : List (List ℤ))
    (is : seen_as scene routes mark w rs ≡ old) (e : kinds_of rs ≡ kinds_in scene) where
  pub length_refused : RefusesStates StateLength rs states after → RefusesInstall StateLength old states (seen_as scene routes mark w after)
  length_refused h =
      subst (λ (v : StageView). RefusesInstall StateLength v states (seen_as scene routes mark w after)) is
      (install_length (seen_as scene routes mark w rs) (seen_as scene routes mark w after) rs after states e h (ap (λ (xs : List SlotView). seen_as scene routes mark w xs) h.0))

  pub range_refused : RefusesStates StateRange rs states after → RefusesInstall StateRange old states (seen_as scene routes mark w after)
  range_refused h =
      subst (λ (v : StageView). RefusesInstall StateRange v states (seen_as scene routes mark w after)) is
      (install_range (seen_as scene routes mark w rs) (seen_as scene routes mark w after) rs after states e h (ap (λ (xs : List SlotView). seen_as scene routes mark w xs) h.0))

  spoiled_now : (n : ℕ) → n ≡ applied_of old.held → holding (seen_as scene routes mark w rs) (Spoiled n) ≡ spoiled old
  spoiled_now n m = ap (λ (v : StageView). holding v (Spoiled n)) is ∙ ap (λ (k : ℕ). holding old (Spoiled k)) m

  pub states_fit : AreStates rs states → AreStates (scripts_in old.scene) states
  states_fit h = subst (λ (v : StageView). AreStates (scripts_in v.scene) states) is (states_alike rs (scripts_in scene) e states h)

  pub memory_refused : (n : ℕ) → n ≡ applied_of old.held → AreStates rs states → RefusesInstall Memory old states (holding (seen_as scene routes mark w rs) (Spoiled n))
  memory_refused n m h = (states_fit h, spoiled_now n m)

  pub world_given : (now given : WorldData) → now ≡ given → AreStates rs states → after ≡ running (kinds_of rs) states →
      seen_as scene routes None now after ≡ holding old (Running (record { world = given; states = states }))
  world_given now given stands are all =
      ap (λ (u : WorldData). seen_as scene routes None u after) stands
      ∙ ap (λ (xs : List (List ℤ)). holding (seen_as scene routes mark w rs) (Running (record { world = given; states = xs }))) (given_states rs after states are all)
      ∙ ap (λ (v : StageView). holding v (Running (record { world = given; states = states }))) is

-- ---- boxes

kind-among : (xs : List SlotView) (kinds : List Kind) (k : ℕ) (kind : Kind) → kinds_of xs ≡ kinds → IsSomeAnd (slice_get xs k) (λ r. kind ≡ r.kind) →
    IsSomeAnd (slice_get kinds k) (λ other. kind ≡ other)
kind-among [] kinds k kind e h = absurd h
kind-among (x ∷ xs) [] k kind e h = cc
kind-among (x ∷ xs) (y ∷ ys) zero kind e h = let same : x.kind ≡ y = cc in h ∙ same
kind-among (x ∷ xs) (y ∷ ys) (suc k) kind e h = let same : kinds_of xs ≡ ys = cc in kind-among xs ys k kind same h

-- a box of the kind of the script at its place
pub box_there : (xs : List SlotView) (kinds : List Kind) (k : ℕ) (kind : Kind) → IsSomeAnd (slice_get xs k) (λ r. kind ≡ r.kind) → kinds_of xs ≡ kinds →
    IsSomeAnd (slice_get kinds k) (λ other. kind ≡ other)
box_there xs kinds k kind h e = kind-among xs kinds k kind e h

pub box_refused : (fault : ReplaceFault) (held : Held) (xs ys : List SlotView) (k : ℕ) (kind : Kind) → kinds_of xs ≡ kinds_of ys → RefusesPlace fault (slice_get xs k) kind →
    RefusesBox (place_fault_of fault) held (slice_get ys k) kind
box_refused place.NoSuchScript held xs ys k kind e h = none-at xs ys k e h
box_refused place.KindDiffers held xs ys k kind e h = at-kind (λ other. kind ≢ other) xs ys k e h
box_refused place.Memory held xs ys k kind e h = at-kind (λ other. kind ≡ other) xs ys k e h

pub same_kinds : (old new : List SlotView) → new ≡ old → kinds_of new ≡ kinds_of old
same_kinds old new is = ap kinds_of is

pub ruleset installs = (has_scripts_still, install_length, install_range, install_memory, first_alike, given_states, states_alike)

pub ruleset places_box = (has_scripts_still, box_there, box_refused)
