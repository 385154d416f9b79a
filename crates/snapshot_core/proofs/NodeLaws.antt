-- What is read of nodes was written so, and what is written so is read.
use Rattle.std.proofs.Common.{◌≡◌, ℕ, Bool, true, eqb, List, [], ◌∷◌, length, Option, Some, refl, sym, ap, subst, ◌∙◌, arith, eq-eqb}
use Rattle.std.specs.Prelude.{◌&&◌}
use Rattle.std.proofs.lemmas.Bool.{eqb-true}
use Rattle.std.proofs.lemmas.List.{length-map}
use Rattle.byte_codec.specs.Codec.{rows, rows_fit}
use Rattle.byte_codec.specs.Exact.{IsExact}
use Rattle.byte_codec.proofs.Laws.{some_is, both, and_true, checked_exact, refined_exact, named_exact, pair_exact}
use Rattle.byte_codec.proofs.LawsOfLists.{rows_exact}
use Rattle.x3d_values.specs.declared.fields.Fields.{Fields}
use Rattle.x3d_values.specs.declared.node_type.NodeType.{NodeType}
use Rattle.scene_core.specs.Scene.{SceneView, shapes_of}
use Rattle.scene_core.specs.Shape.{Shape}
use Rattle.snapshot_codec.specs.Fields.{fields_codec}
use Rattle.snapshot_codec.proofs.KeptLaws.{fields_exact}
use Rattle.snapshot_core.specs.declared.version.Version.{Version}
use Rattle.snapshot_core.specs.Opening.{newest}
use Rattle.snapshot_core.proofs.BesideLaws.{beside_exact, newest_pointing, pointing_fitting}
use Rattle.sensor_plane.specs.declared.pointing.PointingState.{PointingState}
use Rattle.sensor_plane.specs.Pointing.{pointing_fits}
use Rattle.snapshot_core.specs.declared.nodes.NodeLists.{NodeLists}
use Rattle.snapshot_core.specs.declared.nodes.NodeState.{NodeState}
use Rattle.snapshot_core.specs.Nodes as n

-- ---- one node

pub node_exact : (version : Version) (s : Shape) → IsExact (n.node_codec version s)
unfolding n.node_codec n.state_codec
node_exact version s = named_exact n.node_of n.node_parts _ (λ a. refl) (λ b. refl) (pair_exact _ _ (fields_exact (n.kept_fields s)) (beside_exact version s.node_type))

-- ---- all nodes

nodes_back : (nodes : List NodeState) → n.by_nodes (n.by_lists nodes) ≡ nodes
nodes_back [] = refl
nodes_back (node ∷ nodes) = ap (λ (others : List NodeState). node ∷ others) (nodes_back nodes)

abbrev lists : List Fields → List (Option ℕ) → List PointingState → NodeLists
lists fields sensors pointing = record { fields = fields; sensors = sensors; pointing = pointing }

abbrev more : Fields → Option ℕ → PointingState → NodeLists → NodeLists
more f s u others = lists (f ∷ others.fields) (s ∷ others.sensors) (u ∷ others.pointing)

lists_back : (fields : List Fields) (sensors : List (Option ℕ)) (pointing : List PointingState) → length sensors ≡ length fields → length pointing ≡ length fields → n.by_lists (n.nodes_from fields sensors pointing) ≡ lists fields sensors pointing
lists_back [] [] [] p q = refl
lists_back [] [] (u ∷ pointing) p q = absurd (omega (arith, q))
lists_back [] (s ∷ sensors) pointing p q = absurd (omega (arith, p))
lists_back (f ∷ fields) [] pointing p q = absurd (omega (arith, p))
lists_back (f ∷ fields) (s ∷ sensors) [] p q = absurd (omega (arith, q))
lists_back (f ∷ fields) (s ∷ sensors) (u ∷ pointing) p q = ap (more f s u) (lists_back fields sensors pointing (omega (arith, p)) (omega (arith, q)))

abbrev as_long : NodeLists → Bool
as_long b = eqb (length b.sensors) (length b.fields) && eqb (length b.pointing) (length b.fields)

long_lists : (nodes : List NodeState) → as_long (n.by_lists nodes) ≡ true
long_lists nodes =
    let f = length-map nodes (λ (node : NodeState). node.fields) in
    let s = length-map nodes (λ (node : NodeState). node.time) in
    let u = length-map nodes (λ (node : NodeState). node.pointing) in
    and_true _ _ (eq-eqb _ _ (s ∙ sym f)) (eq-eqb _ _ (u ∙ sym f))

lists_exact : (version : Version) (shapes : List Shape) → IsExact (n.lists_codec version shapes)
unfolding n.lists_codec
lists_exact version shapes = refined_exact (λ nodes. Some (n.by_lists nodes)) n.by_nodes (n.lists_fit version shapes) (rows (n.node_codec version) shapes) (record {
  back = λ a b fits e.
      let P : NodeLists → Type 0 = λ ls. (n.by_nodes ls ≡ a) × (n.lists_fit version shapes ls ≡ true) in
      subst P (some_is (n.by_lists a) b e)
      (nodes_back a, and_true _ _ (long_lists a) (ap (λ (ns : List NodeState). (rows (n.node_codec version) shapes).fits ns) (nodes_back a) ∙ fits));
  forth = λ b ok.
      let f = both (as_long b) ((rows (n.node_codec version) shapes).fits (n.by_nodes b)) ok in
      let g = both (eqb (length b.sensors) (length b.fields)) (eqb (length b.pointing) (length b.fields)) f.0 in
      (f.1, ap (λ (ls : NodeLists). Some ls) (lists_back b.fields b.sensors b.pointing (eqb-true _ _ g.0) (eqb-true _ _ g.1)));
}) (rows_exact (n.node_codec version) (node_exact version) shapes)

pub nodes_exact : (version : Version) (scene : SceneView) → IsExact (n.nodes_codec version scene)
unfolding n.nodes_codec
nodes_exact version scene = checked_exact _ (n.lists_codec version (shapes_of scene)) (lists_exact version (shapes_of scene))

-- ---- what a world may keep has bytes in the newest version

-- of a node where viewers point
pub pointing_has : (t : NodeType) (state : PointingState) → pointing_fits t state ≡ true → (n.pointing_part newest t).fits state ≡ true
pointing_has t state fits = newest_pointing t state fits

-- ---- what has bytes in a version has bytes in the newest

newest_part : (version : Version) (t : NodeType) (state : PointingState) → (n.pointing_part version t).fits state ≡ true → (n.pointing_part newest t).fits state ≡ true
newest_part version t state fits = newest_pointing t state (pointing_fitting version t state fits)

newest_node : (version : Version) (s : Shape) (x : NodeState) → (n.node_codec version s).fits x ≡ true → (n.node_codec newest s).fits x ≡ true
unfolding n.node_codec n.state_codec n.beside_codec
newest_node version s x fits =
    let a = both ((fields_codec (n.kept_fields s)).fits x.fields.values) _ fits in
    let b = both ((n.time_part s.node_type).fits x.time) _ a.1 in
    let c = both ((n.pointing_part version s.node_type).fits x.pointing) _ b.1 in
    and_true _ _ a.0 (and_true _ _ b.0 (and_true _ _ (newest_part version s.node_type x.pointing c.0) c.1))

newest_rows : (version : Version) (shapes : List Shape) (xs : List NodeState) → rows_fit (n.node_codec version) shapes xs ≡ true → rows_fit (n.node_codec newest) shapes xs ≡ true
newest_rows version [] [] f = refl
newest_rows version [] (x ∷ xs) f = absurd cc
newest_rows version (s ∷ shapes) [] f = absurd cc
newest_rows version (s ∷ shapes) (x ∷ xs) f =
    let b = both ((n.node_codec version s).fits x) (rows_fit (n.node_codec version) shapes xs) f in
    and_true _ _ (newest_node version s x b.0) (newest_rows version shapes xs b.1)

pub newest_lists : (version : Version) (shapes : List Shape) (lists : NodeLists) → n.lists_fit version shapes lists ≡ true → n.lists_fit newest shapes lists ≡ true
newest_lists version shapes lists f =
    let b = both (eqb (length lists.sensors) (length lists.fields) && eqb (length lists.pointing) (length lists.fields)) _ f in
    and_true _ _ b.0 (newest_rows version shapes (n.by_nodes lists) b.1)
