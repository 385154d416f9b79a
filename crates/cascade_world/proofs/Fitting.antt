-- Which nodes fit a scene, one after the other.
use Rattle.std.proofs.Common.{◌≡◌, ◌≢◌, ℕ, zero, suc, ◌+◌, ◌≤◌, ◌<◌, ◌==◌, Bool, true, false, ◌&&◌, List, [], ◌∷◌, length, drop, Option, Some, None, refl, sym, ap, ◌∙◌, arith, eqb-true, length-drop}
use Rattle.std.specs.Prelude.{slice_get, ◌^◌, IfSome}
use Rattle.std.specs.Option.{option_map_or}
use Rattle.std.proofs.lemmas.Bool.{eq-eqb, lt-ltb}
use Rattle.std.proofs.lemmas.List.{nil_from_length}
use Rattle.x3d_values.specs.declared.fields.Fields.{Fields}
use Rattle.x3d_values.specs.declared.node_type.NodeType.{NodeType}
use Rattle.x3d_values.specs.declared.value.Value.{Value}
use Rattle.x3d_values.specs.Tables.{FieldRowView}
use Rattle.snapshot_codec.specs.Fields.{kept_field, kept_fits}
use Rattle.sensor_plane.specs.declared.pointing.PointingState.{PointingState}
use Rattle.sensor_plane.specs.Pointing.{pointing_fits}
use Rattle.scene_core.specs.Scene.{SceneView, rows_at, shapes_of, types_of}
use Rattle.scene_core.specs.Shape.{Shape, rows_of}
use Rattle.cascade_world.specs.Fits.{all_lead, leads, node_fits, nodes_fit, position_fits, time_fits, values_fit}
use Rattle.x3d_values.specs.declared.node_type.NodeType.TheVariants.{TimeSensor}
use Rattle.cascade_world.proofs.Shapes.{no_shape, shape_at}

and_false : (a : Bool) → (a && false) ≡ false
and_false true = refl
and_false false = refl

differ : false ≡ true → ⊥
differ h = absurd cc

-- ---- values, row by row

-- the row fits the value that stands at its number
abbrev row_fits : NodeType → ℕ → Option Value → FieldRowView → Bool
row_fits t n value row = kept_fits (kept_field t n row.access row.field_type) value

pub values_apart : (t : NodeType) (n : ℕ) (rows : List FieldRowView) (values : List (Option Value)) → length values ≢ length rows → values_fit t n rows values ≡ false
values_apart t n [] [] apart = absurd (apart refl)
values_apart t n [] (v ∷ vs) apart = refl
values_apart t n (row ∷ rows) [] apart = refl
values_apart t n (row ∷ rows) (v ∷ vs) apart =
    ap (λ (b : Bool). row_fits t n v row && b) (values_apart t (n + 1) rows vs (λ e. apart (ap suc e))) ∙ and_false (row_fits t n v row)

values_split : (t : NodeType) (n : ℕ) (rows : List FieldRowView) (values : List (Option Value)) (i : ℕ) (v : Option Value) → length values ≡ length rows → slice_get values i ≡ Some v →
    values_fit t n (drop i rows) (drop i values)
    ≡ (option_map_or (row_fits t n v) (slice_get rows i) false && values_fit t (n + 1) (drop (suc i) rows) (drop (suc i) values))
values_split t n rows [] i v same at = cc
values_split t n [] (u ∷ vs) i v same at = absurd (omega (arith, same))
values_split t n (row ∷ rows) (u ∷ vs) zero v same at = let is : u ≡ v = cc in rw is refl
values_split t n (row ∷ rows) (u ∷ vs) (suc i) v same at = values_split t n rows vs i v (omega (arith, same)) at

module _ (t : NodeType) (rows : List FieldRowView) (values : List (Option Value)) (i : ℕ) (v : Option Value) (all : Bool) (same : length values ≡ length rows) (at : slice_get values i ≡ Some v)
    (so_far : values_fit t i (drop i rows) (drop i values) ≡ all) where
  split : (b : Bool) → b ≡ option_map_or (row_fits t i v) (slice_get rows i) false → (b && values_fit t (i + 1) (drop (i + 1) rows) (drop (i + 1) values)) ≡ all
  split b is =
      let next : suc i ≡ i + 1 = omega arith in
      ap (λ (one : Bool). one && values_fit t (i + 1) (drop (i + 1) rows) (drop (i + 1) values)) is
      ∙ ap (λ (k : ℕ). option_map_or (row_fits t i v) (slice_get rows i) false && values_fit t (i + 1) (drop k rows) (drop k values)) (sym next)
      ∙ sym (values_split t i rows values i v same at) ∙ so_far

  -- one value more
  pub value_more : (b : Bool) → b ≡ option_map_or (row_fits t i v) (slice_get rows i) false → b ≡ true → values_fit t (i + 1) (drop (i + 1) rows) (drop (i + 1) values) ≡ all
  value_more true is passed = split true is
  value_more false is passed = absurd cc

  -- one that doesn't fit
  pub value_fails : (b : Bool) → b ≡ option_map_or (row_fits t i v) (slice_get rows i) false → b ≡ false → false ≡ all
  value_fails true is failed = absurd cc
  value_fails false is failed = split false is

-- too few, or too many
pub values_uncounted : (t : NodeType) (rows : List FieldRowView) (values : List (Option Value)) (count : ℕ) (b : Bool) → count ≡ length rows → b ≡ (length values == count) → b ≡ false →
    false ≡ values_fit t 0 rows values
values_uncounted t rows values count true all is failed = absurd cc
values_uncounted t rows values count false all is failed = sym (values_apart t 0 rows values (λ e. differ (is ∙ eq-eqb (length values) count (e ∙ sym all))))

-- as many as there are rows
pub values_counted : (rows : List FieldRowView) (values : List (Option Value)) (count : ℕ) (b : Bool) → count ≡ length rows → b ≡ (length values == count) → b ≡ true → length values ≡ length rows
values_counted rows values count b all is passed = eqb-true (length values) count (sym is ∙ passed) ∙ all

-- none is left
pub values_done : (t : NodeType) (rows : List FieldRowView) (values : List (Option Value)) (i : ℕ) (all : Bool) → length values ≡ length rows → length rows ≤ i →
    values_fit t i (drop i rows) (drop i values) ≡ all → true ≡ all
values_done t rows values i all same past so_far =
    let no_row : drop i rows ≡ [] = nil_from_length (drop i rows) (omega (arith, past, length-drop i rows)) in
    let no_value : drop i values ≡ [] = nil_from_length (drop i values) (omega (arith, past, same, length-drop i values)) in
    sym (ap (λ (xs : List FieldRowView). values_fit t i xs (drop i values)) no_row ∙ ap (values_fit t i []) no_value) ∙ so_far

-- ---- nodes

abbrev are_many : ℕ → List Fields → List (Option ℕ) → List PointingState → Bool
are_many n fields cycles pointing = (length fields == n) && ((length cycles == n) && (length pointing == n))

eq_suc : (a b : ℕ) → (suc a == suc b) ≡ (a == b)
eq_suc a b = by (a == b) refl (suc a == suc b) refl
  where
    by : (p : Bool) → (a == b) ≡ p → (q : Bool) → (suc a == suc b) ≡ q → q ≡ p
    by true h true k = refl
    by true h false k = absurd (differ (sym k ∙ eq-eqb (suc a) (suc b) (ap suc (eqb-true a b h))))
    by false h true k = absurd (differ (sym h ∙ eq-eqb a b (omega (arith, eqb-true (suc a) (suc b) k))))
    by false h false k = refl

many_less : (n : ℕ) (f : Fields) (fields : List Fields) (c : Option ℕ) (cycles : List (Option ℕ)) (u : PointingState) (pointing : List PointingState) →
    are_many (suc n) (f ∷ fields) (c ∷ cycles) (u ∷ pointing) ≡ are_many n fields cycles pointing
many_less n f fields c cycles u pointing =
    ap (λ (p : Bool). p && ((suc (length cycles) == suc n) && (suc (length pointing) == suc n))) (eq_suc (length fields) n)
    ∙ ap (λ (p : Bool). (length fields == n) && (p && (suc (length pointing) == suc n))) (eq_suc (length cycles) n)
    ∙ ap (λ (p : Bool). (length fields == n) && ((length cycles == n) && p)) (eq_suc (length pointing) n)

pub nodes_apart : (shapes : List Shape) (fields : List Fields) (cycles : List (Option ℕ)) (pointing : List PointingState) →
    are_many (length shapes) fields cycles pointing ≡ false → nodes_fit shapes fields cycles pointing ≡ false
nodes_apart [] fields cycles pointing apart = apart
nodes_apart (s ∷ shapes) [] cycles pointing apart = refl
nodes_apart (s ∷ shapes) (f ∷ fields) [] pointing apart = refl
nodes_apart (s ∷ shapes) (f ∷ fields) (c ∷ cycles) [] apart = refl
nodes_apart (s ∷ shapes) (f ∷ fields) (c ∷ cycles) (u ∷ pointing) apart =
    ap (λ (b : Bool). node_fits s f c u && b) (nodes_apart shapes fields cycles pointing (sym (many_less (length shapes) f fields c cycles u pointing) ∙ apart)) ∙ and_false (node_fits s f c u)

pub nodes_uncounted : (shapes : List Shape) (fields : List Fields) (cycles : List (Option ℕ)) (pointing : List PointingState) (count : ℕ) (b : Bool) → count ≡ length shapes →
    b ≡ are_many count fields cycles pointing → b ≡ false → false ≡ nodes_fit shapes fields cycles pointing
nodes_uncounted shapes fields cycles pointing count b all is failed =
    sym (nodes_apart shapes fields cycles pointing (ap (λ (n : ℕ). are_many n fields cycles pointing) (sym all) ∙ sym is ∙ failed))

-- so many of each
pub record AreMany (n : ℕ) (fields : List Fields) (cycles : List (Option ℕ)) (pointing : List PointingState) : Type 0 where
  pub of_fields : length fields ≡ n
  pub of_cycles : length cycles ≡ n
  pub of_pointing : length pointing ≡ n

pub counted : (n : ℕ) (fields : List Fields) (cycles : List (Option ℕ)) (pointing : List PointingState) → are_many n fields cycles pointing ≡ true → AreMany n fields cycles pointing
counted n fields cycles pointing h = by (length fields == n) (length cycles == n) (length pointing == n) refl refl refl h
  where
    by : (a b c : Bool) → (length fields == n) ≡ a → (length cycles == n) ≡ b → (length pointing == n) ≡ c → (a && (b && c)) ≡ true → AreMany n fields cycles pointing
    by true true true a b c all = record { of_fields = eqb-true _ _ a; of_cycles = eqb-true _ _ b; of_pointing = eqb-true _ _ c }
    by false b c p q r all = absurd cc
    by true false c p q r all = absurd cc
    by true true false p q r all = absurd cc

nodes_split : (shapes : List Shape) (fields : List Fields) (cycles : List (Option ℕ)) (pointing : List PointingState) (i : ℕ) (f : Fields) (c : Option ℕ) (u : PointingState) → AreMany (length shapes) fields cycles pointing →
    slice_get fields i ≡ Some f → slice_get cycles i ≡ Some c → slice_get pointing i ≡ Some u →
    nodes_fit (drop i shapes) (drop i fields) (drop i cycles) (drop i pointing)
    ≡ (option_map_or (λ shape. node_fits shape f c u) (slice_get shapes i) false && nodes_fit (drop (suc i) shapes) (drop (suc i) fields) (drop (suc i) cycles) (drop (suc i) pointing))
nodes_split shapes [] cycles pointing i f c u many at_f at_c at_u = cc
nodes_split shapes (g ∷ fields) [] pointing i f c u many at_f at_c at_u = cc
nodes_split shapes (g ∷ fields) (d ∷ cycles) [] i f c u many at_f at_c at_u = cc
nodes_split [] (g ∷ fields) (d ∷ cycles) (v ∷ pointing) i f c u many at_f at_c at_u = absurd (omega (arith, many.of_fields))
nodes_split (s ∷ shapes) (g ∷ fields) (d ∷ cycles) (v ∷ pointing) zero f c u many at_f at_c at_u =
    let is_f : g ≡ f = cc in
    let is_c : d ≡ c = cc in
    let is_u : v ≡ u = cc in
    rw (is_f, is_c, is_u) refl
nodes_split (s ∷ shapes) (g ∷ fields) (d ∷ cycles) (v ∷ pointing) (suc i) f c u many at_f at_c at_u =
    nodes_split shapes fields cycles pointing i f c u (record {
      of_fields = omega (arith, many.of_fields);
      of_cycles = omega (arith, many.of_cycles);
      of_pointing = omega (arith, many.of_pointing);
    }) at_f at_c at_u

module _ (shapes : List Shape) (fields : List Fields) (cycles : List (Option ℕ)) (pointing : List PointingState) (i : ℕ) (f : Fields) (c : Option ℕ) (u : PointingState) (all : Bool)
    (many : AreMany (length shapes) fields cycles pointing) (at_f : slice_get fields i ≡ Some f) (at_c : slice_get cycles i ≡ Some c) (at_u : slice_get pointing i ≡ Some u)
    (so_far : nodes_fit (drop i shapes) (drop i fields) (drop i cycles) (drop i pointing) ≡ all) where
  node-split : (b : Bool) → b ≡ option_map_or (λ shape. node_fits shape f c u) (slice_get shapes i) false →
      (b && nodes_fit (drop (i + 1) shapes) (drop (i + 1) fields) (drop (i + 1) cycles) (drop (i + 1) pointing)) ≡ all
  node-split b is =
      let next : suc i ≡ i + 1 = omega arith in
      ap (λ (one : Bool). one && nodes_fit (drop (i + 1) shapes) (drop (i + 1) fields) (drop (i + 1) cycles) (drop (i + 1) pointing)) is
      ∙ ap (λ (k : ℕ). option_map_or (λ shape. node_fits shape f c u) (slice_get shapes i) false && nodes_fit (drop k shapes) (drop k fields) (drop k cycles) (drop k pointing)) (sym next)
      ∙ sym (nodes_split shapes fields cycles pointing i f c u many at_f at_c at_u) ∙ so_far

  -- one node more
  pub node_more : (b : Bool) → b ≡ option_map_or (λ shape. node_fits shape f c u) (slice_get shapes i) false → b ≡ true →
      nodes_fit (drop (i + 1) shapes) (drop (i + 1) fields) (drop (i + 1) cycles) (drop (i + 1) pointing) ≡ all
  node_more true is passed = node-split true is
  node_more false is passed = absurd cc

  -- one that doesn't fit
  pub node_fails : (b : Bool) → b ≡ option_map_or (λ shape. node_fits shape f c u) (slice_get shapes i) false → b ≡ false → false ≡ all
  node_fails true is failed = absurd cc
  node_fails false is failed = node-split false is

-- none is left
pub nodes_done : (shapes : List Shape) (fields : List Fields) (cycles : List (Option ℕ)) (pointing : List PointingState) (i : ℕ) (all : Bool) → AreMany (length shapes) fields cycles pointing → length shapes ≤ i →
    nodes_fit (drop i shapes) (drop i fields) (drop i cycles) (drop i pointing) ≡ all → true ≡ all
nodes_done shapes fields cycles pointing i all many past so_far =
    let no_shape : drop i shapes ≡ [] = nil_from_length (drop i shapes) (omega (arith, past, length-drop i shapes)) in
    let no_field : drop i fields ≡ [] = nil_from_length (drop i fields) (omega (arith, past, many.of_fields, length-drop i fields)) in
    let no_cycle : drop i cycles ≡ [] = nil_from_length (drop i cycles) (omega (arith, past, many.of_cycles, length-drop i cycles)) in
    let no_state : drop i pointing ≡ [] = nil_from_length (drop i pointing) (omega (arith, past, many.of_pointing, length-drop i pointing)) in
    sym (ap (λ (xs : List Shape). nodes_fit xs (drop i fields) (drop i cycles) (drop i pointing)) no_shape
    ∙ ap (λ (xs : List Fields). nodes_fit [] xs (drop i cycles) (drop i pointing)) no_field
    ∙ ap (λ (xs : List (Option ℕ)). nodes_fit [] [] xs (drop i pointing)) no_cycle
    ∙ ap (λ (xs : List PointingState). nodes_fit [] [] [] xs) no_state) ∙ so_far

-- ---- a node by its type

node-typed : (f : Fields) (c : Option ℕ) (u : PointingState) (t : NodeType) (found : Option Shape) (s : Shape) (b : Bool) → found ≡ Some s → s.node_type ≡ t →
    b ≡ ((values_fit t 0 (option_map_or rows_of found []) f.values && position_fits t f.position) && (time_fits t c && pointing_fits t u)) →
    b ≡ option_map_or (λ shape. node_fits shape f c u) found false
node-typed f c u t found s b at is h = h ∙ rw (at, sym is) refl

pub node_by : (scene : SceneView) (node : ℕ) (t : NodeType) (f : Fields) (c : Option ℕ) (u : PointingState) (b : Bool) → slice_get (types_of scene) node ≡ Some t →
    b ≡ ((values_fit t 0 (rows_at scene node) f.values && position_fits t f.position) && (time_fits t c && pointing_fits t u)) →
    b ≡ option_map_or (λ shape. node_fits shape f c u) (slice_get (shapes_of scene) node) false
node_by scene node t f c u b h is =
    let s = shape_at scene node t h in
    node-typed f c u t (slice_get (shapes_of scene) node) s.shape b s.at s.is is

pub nowhere : (scene : SceneView) (node : ℕ) (f : Fields) (c : Option ℕ) (u : PointingState) → slice_get (types_of scene) node ≡ None →
    false ≡ option_map_or (λ shape. node_fits shape f c u) (slice_get (shapes_of scene) node) false
nowhere scene node f c u h = rw (no_shape scene.nodes node h) refl

-- a cycle has 63 bits
pub clock_fits : (t : NodeType) (r c : Option ℕ) → t ≡ TimeSensor → r ≡ c → IfSome r (λ n. n < 2 ^ 63) → true ≡ time_fits t c
clock_fits t r c is same fits = rw (is, sym same) (by r fits)
  where
    by : (o : Option ℕ) → IfSome o (λ n. n < 2 ^ 63) → true ≡ time_fits TimeSensor o
    by None h = refl
    by (Some n) h = sym (lt-ltb n (2 ^ 63) h)

-- ---- drags, one sensor after the other

drop-at : {A : Type 0} (xs : List A) (i : ℕ) (x : A) → slice_get xs i ≡ Some x → drop i xs ≡ x ∷ drop (suc i) xs
drop-at [] i x h = cc
drop-at (y ∷ ys) zero x h = let same : y ≡ x = cc in rw same refl
drop-at (y ∷ ys) (suc i) x h = drop-at ys i x h

module _ (scene : SceneView) (pointing : List PointingState) (i : ℕ) (all : Bool) (so_far : all_lead scene i (drop i pointing) ≡ all) where
  module _ (state : PointingState) (at : slice_get pointing i ≡ Some state) where
    lead-split : (b : Bool) → b ≡ leads scene i state → (b && all_lead scene (i + 1) (drop (i + 1) pointing)) ≡ all
    lead-split b is =
        let next : suc i ≡ i + 1 = omega arith in
        ap (λ (one : Bool). one && all_lead scene (i + 1) (drop (i + 1) pointing)) is
        ∙ ap (λ (k : ℕ). leads scene i state && all_lead scene (i + 1) (drop k pointing)) (sym next)
        ∙ ap (all_lead scene i) (sym (drop-at pointing i state at)) ∙ so_far

    -- one sensor more
    pub lead_more : (b : Bool) → b ≡ leads scene i state → b ≡ true → all_lead scene (i + 1) (drop (i + 1) pointing) ≡ all
    lead_more true is passed = lead-split true is
    lead_more false is passed = absurd cc

    -- one whose drag leads elsewhere
    pub lead_fails : (b : Bool) → b ≡ leads scene i state → b ≡ false → false ≡ all
    lead_fails true is passed = absurd cc
    lead_fails false is passed = lead-split false is

  -- none is left
  pub leads_done : length pointing ≤ i → true ≡ all
  leads_done past =
      let none : drop i pointing ≡ [] = nil_from_length (drop i pointing) (omega (arith, past, length-drop i pointing)) in
      sym (ap (all_lead scene i) none) ∙ so_far

-- where the nodes fit, there is something for each
pub all_many : (shapes : List Shape) (fields : List Fields) (cycles : List (Option ℕ)) (pointing : List PointingState) → nodes_fit shapes fields cycles pointing ≡ true → length pointing ≡ length shapes
all_many shapes fields cycles pointing fits = by (are_many (length shapes) fields cycles pointing) refl
  where
    by : (b : Bool) → are_many (length shapes) fields cycles pointing ≡ b → length pointing ≡ length shapes
    by true many = (counted (length shapes) fields cycles pointing many).of_pointing
    by false apart = absurd (differ (sym (nodes_apart shapes fields cycles pointing apart) ∙ fits))
