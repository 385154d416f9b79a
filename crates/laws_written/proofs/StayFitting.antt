-- A state that fits is that of a world that fits, and a world that fits has a state that does.
use Rattle.std.proofs.Common.{◌≡◌, ◌==◌, ◌≤◌, ℕ, pos, true, false, ◌&&◌, List, [], ◌∷◌, length, map, Option, None, refl, arith, eqb-true}
use Rattle.std.specs.Prelude.{replicate}
use Rattle.std.proofs.lemmas.List.{length-replicate}
use Rattle.byte_codec.proofs.Laws.{and_true, both}
use Rattle.x3d_values.specs.declared.fields.Fields.{Fields}
use Rattle.x3d_values.specs.declared.node_type.NodeType.{NodeType}
use Rattle.x3d_values.specs.declared.node_type.NodeType.TheVariants.{TimeSensor}
use Rattle.x3d_values.specs.declared.ranges.TheConstants.{MAX_VIEWERS}
use Rattle.sensor_plane.specs.declared.pointing.PointingState.{PointingState}
use Rattle.sensor_plane.specs.Pointing.{pointing_fits, start_of}
use Rattle.sensor_plane.proofs.Pointings.{starts_fit}
use Rattle.scene_core.specs.Shape.{Shape}
use Rattle.cascade_world.specs.declared.world.WorldData.{WorldData}
use Rattle.laws_worlds.specs.Ranges.{fields_fit}
use Rattle.laws_worlds.specs.Fits.{WorldFits, node_fits, nodes_fit, time_fits}
use Rattle.laws_written.specs.Fitting.{state_fits}
use Rattle.x3d_values.specs.Ranges.{max_inputs}

-- ---- a world with that state, in which nothing has happened

no_cycle : (t : NodeType) → time_fits t None ≡ true
no_cycle TimeSensor = refl
no_cycle _ = refl

abbrev no_cycles : List Fields → List (Option ℕ)
no_cycles state = map (λ (f : Fields). None) state

abbrev starts : List Shape → List PointingState
starts shapes = map (λ (s : Shape). start_of s.node_type) shapes

abbrev pub standing : List Shape → List Fields → WorldData
standing shapes state = record {
  applied = 0;
  last_time = pos 0;
  fields = state;
  sensors = no_cycles state;
  pointing = starts shapes;
  buttons = replicate MAX_VIEWERS false;
  trace = [];
}

nodes_stand : (shapes : List Shape) (state : List Fields) → state_fits shapes state ≡ true → nodes_fit shapes state (no_cycles state) (starts shapes) ≡ true
nodes_stand [] [] h = refl
nodes_stand [] (f ∷ fs) h = absurd cc
nodes_stand (s ∷ shapes) [] h = absurd cc
nodes_stand (s ∷ shapes) (f ∷ fs) h =
    let b = both (fields_fit s.node_type s.declared f) (state_fits shapes fs) h in
    and_true _ _ (and_true _ _ b.0 (and_true _ _ (no_cycle s.node_type) (starts_fit s.node_type))) (nodes_stand shapes fs b.1)

none_yet : 0 ≤ max_inputs
none_yet = omega arith

pub standing_fits : (shapes : List Shape) (state : List Fields) → state_fits shapes state ≡ true → WorldFits shapes (standing shapes state)
standing_fits shapes state h = record {
  count = none_yet;
  last = refl;
  nodes = nodes_stand shapes state h;
  buttons = length-replicate MAX_VIEWERS false;
  lines = refl;
}

-- ---- the state of a world

nodes_keep : (shapes : List Shape) (fs : List Fields) (cs : List (Option ℕ)) (us : List PointingState) → nodes_fit shapes fs cs us ≡ true → state_fits shapes fs ≡ true
nodes_keep [] [] cs us h = refl
nodes_keep [] (f ∷ fs) cs us h =
    let none = eqb-true (length (f ∷ fs)) 0 (both (length (f ∷ fs) == 0) ((length cs == 0) && (length us == 0)) h).0 in
    absurd (omega (arith, none))
nodes_keep (s ∷ shapes) [] cs us h = absurd cc
nodes_keep (s ∷ shapes) (f ∷ fs) [] us h = absurd cc
nodes_keep (s ∷ shapes) (f ∷ fs) (c ∷ cs) [] h = absurd cc
nodes_keep (s ∷ shapes) (f ∷ fs) (c ∷ cs) (u ∷ us) h =
    let b = both (node_fits s f c u) (nodes_fit shapes fs cs us) h in
    let n = both (fields_fit s.node_type s.declared f) (time_fits s.node_type c && pointing_fits s.node_type u) b.0 in
    and_true _ _ n.0 (nodes_keep shapes fs cs us b.1)

pub fitting_state : (shapes : List Shape) (w : WorldData) → WorldFits shapes w → state_fits shapes w.fields ≡ true
fitting_state shapes w fits = nodes_keep shapes w.fields w.sensors w.pointing fits.nodes
