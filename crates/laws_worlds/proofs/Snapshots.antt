-- What fits has a snapshot.
use Rattle.std.proofs.Common.{◌≡◌, ℕ, suc, ◌+◌, ◌^◌, ◌<◌, ◌≤◌, ◌==◌, true, ◌&&◌, List, [], ◌∷◌, length, map, Option, nat_lt, nat_le, refl, sym, ap, subst, ◌∙◌, arith, eq-eqb, eqb-true, lt-ltb, le-leb, leb-true}
use Rattle.std.specs.List.{list_all}
use Rattle.std.proofs.lemmas.List.{length-map, nil_from_length}
use Rattle.byte_codec.specs.Codec.{rows_fit, all_fit}
use Rattle.byte_codec.proofs.Laws.{both, and_true}
use Rattle.x3d_values.specs.declared.fields.Fields.{Fields}
use Rattle.x3d_values.specs.declared.fields.Position.{Position}
use Rattle.x3d_values.specs.declared.node_type.NodeType.{NodeType}
use Rattle.x3d_values.specs.declared.node_type.NodeType.TheVariants.{TimeSensor, BooleanSequencer, IntegerSequencer}
use Rattle.x3d_values.specs.declared.value.Value.{Value}
use Rattle.x3d_values.specs.Tables.{FieldRowView}
use Rattle.sensor_plane.specs.declared.pointing.PointingState.{PointingState}
use Rattle.sensor_plane.specs.Pointing.{pointing_fits}
use Rattle.snapshot_codec.specs.Fields.{kept_codec}
use Rattle.snapshot_codec.specs.Inputs.{input_codec}
use Rattle.snapshot_codec.specs.Parts.{cycle_codec, position_codec}
use Rattle.snapshot_codec.specs.Trace.{typed_fits, is_moment, sent_at_codec, entry_codec}
use Rattle.scene_core.specs.Scene.{SceneView, shapes_of}
use Rattle.scene_core.specs.Shape.{Shape, rows_of}
use Rattle.cascade_world.specs.Fits.{all_lead}
use Rattle.cascade_trace.specs.declared.trace.TraceLine.{TraceLine}
use Rattle.cascade_core.specs.Course.{Scripted}
use Rattle.cascade_core.specs.Installing.{StatesFit}
use Rattle.snapshot_core.specs.Loading.{newest}
use Rattle.snapshot_core.specs.Opening.{numbers_of}
use Rattle.snapshot_core.proofs.NodeLaws.{pointing_has}
use Rattle.snapshot_core.proofs.StateSizes.{states_have}
use Rattle.snapshot_core.proofs.WorldLaws.{newest_set}
use Rattle.snapshot_core.specs.Nodes.{kept_from, kept_fields, time_part, position_part, beside_codec, state_codec, node_codec, nodes_from, lists_codec, lists_fit, nodes_codec}
use Rattle.snapshot_core.specs.WorldCodec.{output_type, entry_of, lines_codec, buttons_codec, parts_codec, lists_in, world_codec}
use Rattle.laws_worlds.specs.Ranges.{values_fit, position_fits, fields_fit}
use Rattle.laws_worlds.specs.Fits.{time_fits, node_fits, nodes_fit, line_fits, WorldFits}
use Rattle.laws_worlds.specs.Snapshots.{FittingHaveSnapshots}
use Rattle.x3d_values.specs.Ranges.{max_inputs}

-- ---- a node

values_have : (t : NodeType) (n : ℕ) (es : List FieldRowView) (values : List (Option Value)) → values_fit t n es values ≡ true → rows_fit kept_codec (kept_from t n es) values ≡ true
values_have t n [] [] f = refl
values_have t n [] (v ∷ values) f = absurd cc
values_have t n (e ∷ es) [] f = absurd cc
values_have t n (e ∷ es) (v ∷ values) f = let b = both _ (values_fit t (n + 1) es values) f in and_true _ _ b.0 (values_have t (n + 1) es values b.1)

position_has : (t : NodeType) (p : Position) → position_fits t p ≡ true → (position_part t).fits p ≡ true
unfolding position_part position_codec
position_has BooleanSequencer p f = f
position_has IntegerSequencer p f = f
position_has _ p f = f

time_has : (t : NodeType) (c : Option ℕ) → time_fits t c ≡ true → (time_part t).fits c ≡ true
unfolding time_part cycle_codec
time_has TimeSensor c f = f
time_has _ c f = f

node_has : (s : Shape) (x : Fields) (c : Option ℕ) (u : PointingState) → node_fits s x c u ≡ true → (node_codec newest s).fits (record { fields = x; time = c; pointing = u }) ≡ true
unfolding node_codec state_codec beside_codec kept_fields
node_has s x c u f =
    let t : NodeType = s.node_type in
    let a = both (fields_fit t s.declared x) (time_fits t c && pointing_fits t u) f in
    let b = both (values_fit t 0 (rows_of s) x.values) (position_fits t x.position) a.0 in
    let d = both (time_fits t c) (pointing_fits t u) a.1 in
    and_true _ _ (values_have t 0 (rows_of s) x.values b.0) (and_true _ _ (time_has t c d.0) (and_true _ _ (pointing_has t u d.1) (position_has t x.position b.1)))

nodes_have : (shapes : List Shape) (fs : List Fields) (cs : List (Option ℕ)) (us : List PointingState) → nodes_fit shapes fs cs us ≡ true → (length cs ≡ length fs) × (length us ≡ length fs) × (rows_fit (node_codec newest) shapes (nodes_from fs cs us) ≡ true)
nodes_have [] fs cs us f =
    let a = both (length fs == 0) ((length cs == 0) && (length us == 0)) f in
    let b = both (length cs == 0) (length us == 0) a.1 in
    let x : length fs ≡ 0 = eqb-true (length fs) 0 a.0 in
    let y : length cs ≡ 0 = eqb-true (length cs) 0 b.0 in
    let z : length us ≡ 0 = eqb-true (length us) 0 b.1 in
    let none : fs ≡ [] = nil_from_length fs x in
    (y ∙ sym x, z ∙ sym x, subst (λ (l : List Fields). rows_fit (node_codec newest) [] (nodes_from l cs us) ≡ true) (sym none) refl)
nodes_have (s ∷ shapes) [] cs us f = absurd cc
nodes_have (s ∷ shapes) (x ∷ fs) [] us f = absurd cc
nodes_have (s ∷ shapes) (x ∷ fs) (c ∷ cs) [] f = absurd cc
nodes_have (s ∷ shapes) (x ∷ fs) (c ∷ cs) (u ∷ us) f =
    let b = both (node_fits s x c u) (nodes_fit shapes fs cs us) f in
    let r = nodes_have shapes fs cs us b.1 in
    (ap suc r.0, ap suc r.1, and_true _ _ (node_has s x c u b.0) r.2)

-- ---- the trace

line_has : (shapes : List Shape) (line : TraceLine) → line_fits shapes line ≡ true → (entry_codec (numbers_of newest) (output_type shapes)).fits (entry_of line) ≡ true
unfolding entry_codec sent_at_codec input_codec
line_has shapes line f =
    let a = both (nat_le line.input max_inputs) _ f in
    let b = both (is_moment line.time) _ a.1 in
    let c = both (nat_lt line.source.node (2 ^ 32) && nat_lt line.source.field (2 ^ 16)) (typed_fits (output_type shapes line.source.node line.source.field) line.value) b.1 in
    let most : line.input ≤ max_inputs = leb-true line.input max_inputs a.0 in
    let few : line.input < 2 ^ 64 = omega (arith, most) in
    and_true _ _ (and_true _ _ (lt-ltb line.input (2 ^ 64) few) (and_true _ _ b.0 c.0)) c.1

lines_have : (shapes : List Shape) (lines : List TraceLine) → list_all (line_fits shapes) lines ≡ true → all_fit (entry_codec (numbers_of newest) (output_type shapes)) (map entry_of lines) ≡ true
lines_have shapes [] f = refl
lines_have shapes (line ∷ lines) f =
    let b = both (line_fits shapes line) (list_all (line_fits shapes) lines) f in
    and_true _ _ (line_has shapes line b.0) (lines_have shapes lines b.1)

-- ---- a world

world_has : (scene : SceneView) (w : Scripted) → length w.world.trace < 2 ^ 64 → WorldFits (shapes_of scene) w.world → all_lead scene 0 w.world.pointing ≡ true → StatesFit scene w.states → (world_codec newest scene).fits w ≡ true
unfolding world_codec parts_codec nodes_codec lists_codec buttons_codec lines_codec input_codec
world_has scene w few f paths states =
    let n = nodes_have (shapes_of scene) w.world.fields w.world.sensors w.world.pointing f.nodes in
    let short : length (map entry_of w.world.trace) < 2 ^ 64 = subst (λ (k : ℕ). k < 2 ^ 64) (sym (length-map w.world.trace entry_of)) few in
    let nodes : lists_fit newest (shapes_of scene) (lists_in w.world) ≡ true = and_true _ _ (and_true _ _ (eq-eqb _ _ n.0) (eq-eqb _ _ n.1)) n.2 in
    and_true _ _ (le-leb w.world.applied max_inputs f.count)
    (and_true _ _ f.last
    (and_true _ _ (and_true _ _ paths nodes)
    (and_true _ _ (newest_set w.world.buttons f.buttons)
    (and_true _ _ (states_have scene w.states states)
    (and_true _ _ (lt-ltb (length (map entry_of w.world.trace)) (2 ^ 64) short) (lines_have (shapes_of scene) w.world.trace f.lines))))))

pub fitting_have : FittingHaveSnapshots
fitting_have scene w few f = record { fits = world_has scene w few f.world f.paths f.states; states = f.states }
