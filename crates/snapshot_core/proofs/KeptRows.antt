-- The fields of a node that stand in a snapshot, as a loop lists them.
use Rattle.std.proofs.Common.{◌≡◌, ℕ, ◌+◌, ◌≤◌, ◌<◌, List, [], ◌∷◌, ◌++◌, length, drop, Option, Some, refl, sym, ap, ◌∙◌, append_assoc, arith, zero, suc, length-drop, map, subst}
use Rattle.std.specs.Prelude.{slice_get, slice_index_or}
use Rattle.std.specs.Option.{option_map_or}
use Rattle.std.proofs.lemmas.List.{append-nil, nil_from_length}
use Rattle.x3d_values.specs.Tables.{FieldRowView}
use Rattle.x3d_values.specs.declared.node_type.NodeType.{NodeType}
use Rattle.scene_core.specs.Scene.{SceneView, rows_at, shape_of, shapes_of, types_of}
use Rattle.scene_core.specs.Shape.{Shape, rows_of}
use Rattle.scene_core.specs.declared.scene.SceneNode.{SceneNode}
use Rattle.byte_codec.specs.Codec.{Codec}
use Rattle.snapshot_codec.specs.declared.kept.KeptField.{KeptField}
use Rattle.snapshot_codec.specs.Fields.{kept_field}
use Rattle.snapshot_core.specs.declared.version.Version.{Version}
use Rattle.snapshot_core.specs.declared.nodes.NodeState.{NodeState}
use Rattle.snapshot_core.specs.Nodes.{kept_fields, kept_from, node_codec, shape_in, state_codec}

-- the node of that number has its shape
found : (ns : List SceneNode) (i : ℕ) (d : Shape) → i < length ns → slice_get (map shape_of ns) i ≡ Some (slice_index_or (map shape_of ns) i d)
found [] i d lt = absurd (omega arith)
found (n ∷ ns) zero d lt = refl
found (n ∷ ns) (suc i) d lt = found ns i d (omega arith)

pub shape_in-is : (scene : SceneView) (node : ℕ) → node < length scene.nodes → slice_get (shapes_of scene) node ≡ Some (shape_in scene node)
shape_in-is scene node lt = found scene.nodes node _ lt

typed : (ns : List SceneNode) (i : ℕ) (t : NodeType) (s : Shape) → slice_get (map (λ (n : SceneNode). n.node_type) ns) i ≡ Some t → slice_get (map shape_of ns) i ≡ Some s → t ≡ s.node_type
typed [] i t s h k = cc
typed (n ∷ ns) zero t s h k = cc
typed (n ∷ ns) (suc i) t s h k = typed ns i t s h k

pub type_in : (scene : SceneView) (node : ℕ) (t : NodeType) → node < length scene.nodes → slice_get (types_of scene) node ≡ Some t → t ≡ (shape_in scene node).node_type
type_in scene node t lt h = typed scene.nodes node t (shape_in scene node) h (shape_in-is scene node lt)

rows_found : (shape : Option Shape) (s : Shape) → shape ≡ Some s → option_map_or rows_of shape [] ≡ rows_of s
rows_found shape s h = rw h refl

rows_in : (scene : SceneView) (node : ℕ) → node < length scene.nodes → rows_at scene node ≡ rows_of (shape_in scene node)
rows_in scene node lt = rows_found (slice_get (shapes_of scene) node) (shape_in scene node) (shape_in-is scene node lt)

-- what a snapshot has of a field, if the node has it
abbrev pub one_kept : NodeType → ℕ → Option FieldRowView → List KeptField
one_kept t number field = option_map_or (λ row. kept_field t number row.access row.field_type ∷ []) field []

kept-split : (t : NodeType) (rows : List FieldRowView) (i n : ℕ) → kept_from t n (drop i rows) ≡ one_kept t n (slice_get rows i) ++ kept_from t (n + 1) (drop (suc i) rows)
kept-split t [] zero n = refl
kept-split t [] (suc i) n = refl
kept-split t (row ∷ rows) zero n = refl
kept-split t (row ∷ rows) (suc i) n = kept-split t rows i n

-- one field more
pub kept-more : (scene : SceneView) (node : ℕ) (t : NodeType) (number : ℕ) (old new total : List KeptField) → node < length scene.nodes →
    new ≡ old ++ one_kept t number (slice_get (rows_at scene node) number) →
    old ++ kept_from t number (drop number (rows_of (shape_in scene node))) ≡ total →
    new ++ kept_from t (number + 1) (drop (number + 1) (rows_of (shape_in scene node))) ≡ total
kept-more scene node t number old new total lt more so_far =
    let rows : List FieldRowView = rows_of (shape_in scene node) in
    let one : List KeptField = one_kept t number (slice_get rows number) in
    let is : new ≡ old ++ one = more ∙ ap (λ (rows : List FieldRowView). old ++ one_kept t number (slice_get rows number)) (rows_in scene node lt) in
    let next : suc number ≡ number + 1 = omega arith in
    let split : kept_from t number (drop number rows) ≡ one ++ kept_from t (number + 1) (drop (number + 1) rows) =
    kept-split t rows number number ∙ ap (λ (k : ℕ). one ++ kept_from t (number + 1) (drop k rows)) next in
    ap (λ (z : List KeptField). z ++ kept_from t (number + 1) (drop (number + 1) rows)) is
    ∙ append_assoc old one (kept_from t (number + 1) (drop (number + 1) rows))
    ∙ ap (λ (z : List KeptField). old ++ z) (sym split) ∙ so_far

-- none is left
pub kept-done : (scene : SceneView) (node : ℕ) (t : NodeType) (number count : ℕ) (kept : List KeptField) → node < length scene.nodes → slice_get (types_of scene) node ≡ Some t →
    count ≤ number → count ≡ length (rows_at scene node) →
    kept ++ kept_from t number (drop number (rows_of (shape_in scene node))) ≡ kept_from t 0 (rows_of (shape_in scene node)) →
    kept ≡ kept_fields (shape_in scene node)
unfolding kept_fields
kept-done scene node t number count kept lt h le all so_far =
    let rows : List FieldRowView = rows_of (shape_in scene node) in
    let none : drop number rows ≡ [] = nil_from_length (drop number rows) (omega (arith, le, all, ap length (rows_in scene node lt), length-drop number rows)) in
    let last : kept ++ kept_from t number (drop number rows) ≡ kept = ap (λ (z : List FieldRowView). kept ++ kept_from t number z) none ∙ append-nil kept in
    sym last ∙ so_far ∙ ap (λ (k : NodeType). kept_from k 0 rows) (type_in scene node t lt h)

-- the bytes of a node go by its type and those fields
pub codec_in : (version : Version) (scene : SceneView) (node : ℕ) (t : NodeType) → node < length scene.nodes → slice_get (types_of scene) node ≡ Some t →
    state_codec version (kept_fields (shape_in scene node)) t ≡ node_codec version (shape_in scene node)
unfolding node_codec
codec_in version scene node t lt h = ap (λ (k : NodeType). state_codec version (kept_fields (shape_in scene node)) k) (type_in scene node t lt h)

-- what is written of a node
pub text_in : (version : Version) (scene : SceneView) (node : ℕ) (t : NodeType) (state : NodeState) (old new : List ℕ) → node < length scene.nodes → slice_get (types_of scene) node ≡ Some t →
    new ≡ old ++ (state_codec version (kept_fields (shape_in scene node)) t).write state → new ≡ old ++ (node_codec version (shape_in scene node)).write state
text_in version scene node t state old new lt h more = more ∙ ap (λ (c : Codec NodeState). old ++ c.write state) (codec_in version scene node t lt h)

-- what is read of a node
pub read_in : (version : Version) (P : Codec NodeState → Type 0) (scene : SceneView) (node : ℕ) (t : NodeType) (kept : List KeptField) → node < length scene.nodes → slice_get (types_of scene) node ≡ Some t →
    kept ≡ kept_fields (shape_in scene node) → P (state_codec version kept t) → P (node_codec version (shape_in scene node))
read_in version P scene node t kept lt h is p =
    subst P (ap (λ (k : List KeptField). state_codec version k t) is ∙ codec_in version scene node t lt h) p
