-- Nodes one after the other, as a loop reads and writes them.
use Rattle.std.proofs.Common.{◌≡◌, ℕ, ◌+◌, ◌≤◌, ◌<◌, List, [], ◌∷◌, ◌++◌, length, get_or, drop, min, Option, Some, None, refl, sym, ap, ◌∙◌, append_assoc, arith, add-one, drop-cons, length-drop}
use Rattle.std.specs.Prelude.{slice_get}
use Rattle.std.proofs.lemmas.List.{append-nil, nil_from_length, length-map}
use Rattle.std.proofs.lemmas.Option.{slice_get_within, get_or_from_slice_get}
use Rattle.byte_codec.specs.Codec.{◌>>?◌, at_front, rows_at, rows_text}
use Rattle.x3d_values.specs.declared.fields.Fields.{Fields}
use Rattle.scene_core.specs.Shape.{Shape}
use Rattle.scene_core.specs.Scene.{SceneView, shape_of, shapes_of}
use Rattle.snapshot_codec.specs.Reads.{Fails}
use Rattle.snapshot_codec.specs.declared.fault.PartFault.{PartFault}
use Rattle.snapshot_codec.specs.declared.fault.PartFault.TheVariants as faults
use Rattle.sensor_plane.specs.declared.pointing.PointingState.{PointingState}
use Rattle.snapshot_core.specs.declared.version.Version.{Version}
use Rattle.snapshot_core.specs.declared.nodes.NodeLists.{NodeLists}
use Rattle.snapshot_core.specs.declared.nodes.NodeState.{NodeState}
use Rattle.snapshot_core.specs.Nodes.{node_codec, by_lists, nodes_from, lists_codec}

-- ---- reading

abbrev pub beyond : NodeLists → NodeLists → NodeLists
beyond front more = record {
  fields = front.fields ++ more.fields;
  sensors = front.sensors ++ more.sensors;
  pointing = front.pointing ++ more.pointing;
}

-- the nodes that were read, and those that are still read
abbrev pub behind_lists : NodeLists → Option (List NodeState × List ℕ) → Option (NodeLists × List ℕ)
behind_lists front read = read >>? λ x. Some (beyond front (by_lists x.0), x.1)

abbrev pub with_node : NodeLists → NodeState → NodeLists
with_node front node = record {
  fields = front.fields ++ node.fields ∷ [];
  sensors = front.sensors ++ node.time ∷ [];
  pointing = front.pointing ++ node.pointing ∷ [];
}

abbrev pub no_lists : NodeLists
no_lists = record { fields = []; sensors = []; pointing = [] }

regroup : (front : NodeLists) (node : NodeState) (r : Option (List NodeState × List ℕ)) → behind_lists front (r >>? λ x. Some (node ∷ x.0, x.1)) ≡ behind_lists (with_node front node) r
regroup front node None = refl
regroup front node (Some x) =
    let rest = by_lists x.0 in
    rw (append_assoc front.fields (node.fields ∷ []) rest.fields, append_assoc front.sensors (node.time ∷ []) rest.sensors, append_assoc front.pointing (node.pointing ∷ []) rest.pointing) refl

pub nodes_begin : (version : Version) (shapes : List Shape) (bytes : List ℕ) → behind_lists no_lists (rows_at (node_codec version) shapes bytes) ≡ (lists_codec version shapes).read bytes
unfolding lists_codec
nodes_begin version shapes bytes = begun (rows_at (node_codec version) shapes bytes)
  where
    begun : (r : Option (List NodeState × List ℕ)) → behind_lists no_lists r ≡ (r >>? at_front (λ nodes. Some (by_lists nodes)))
    begun None = refl
    begun (Some x) = refl

nodes_go_on : (version : Version) (front : NodeLists) (shapes : List Shape) (i : ℕ) (d : Shape) (bytes : List ℕ) (node : NodeState) (after : List ℕ) (total : Option (NodeLists × List ℕ)) → i < length shapes → (node_codec version (get_or shapes i d)).read bytes ≡ Some (node, after)
    → behind_lists front (rows_at (node_codec version) (drop i shapes) bytes) ≡ total → behind_lists (with_node front node) (rows_at (node_codec version) (drop (i + 1) shapes) after) ≡ total
unfolding rows_at
nodes_go_on version front shapes i d bytes node after total lt h so_far =
    let e : drop i shapes ≡ get_or shapes i d ∷ drop (i + 1) shapes = rw (add-one, drop-cons shapes i d) refl in
    let one : behind_lists front (rows_at (node_codec version) (drop i shapes) bytes) ≡ behind_lists (with_node front node) (rows_at (node_codec version) (drop (i + 1) shapes) after) = rw (e, h) (regroup front node (rows_at (node_codec version) (drop (i + 1) shapes) after)) in
    sym one ∙ so_far

nodes_end : (version : Version) (e : PartFault) (front : NodeLists) (shapes : List Shape) (i : ℕ) (d : Shape) (bytes : List ℕ) (total : Option (NodeLists × List ℕ)) → i < length shapes → Fails e ((node_codec version (get_or shapes i d)).read bytes)
    → behind_lists front (rows_at (node_codec version) (drop i shapes) bytes) ≡ total → Fails e total
unfolding rows_at
nodes_end version faults.Memory front shapes i d bytes total lt h so_far = tt
nodes_end version faults.NotCanonical front shapes i d bytes total lt h so_far =
    let e : drop i shapes ≡ get_or shapes i d ∷ drop (i + 1) shapes = rw (add-one, drop-cons shapes i d) refl in
    let one : behind_lists front (rows_at (node_codec version) (drop i shapes) bytes) ≡ None = rw (e, h) refl in
    sym so_far ∙ one

nodes_done : (version : Version) (front : NodeLists) (shapes : List Shape) (i : ℕ) (bytes : List ℕ) (total : Option (NodeLists × List ℕ)) → length shapes ≤ i
    → behind_lists front (rows_at (node_codec version) (drop i shapes) bytes) ≡ total → total ≡ Some (front, bytes)
unfolding rows_at
nodes_done version front shapes i bytes total le so_far =
    let e : drop i shapes ≡ [] = nil_from_length (drop i shapes) (omega (arith, length-drop i shapes)) in
    let one : behind_lists front (rows_at (node_codec version) (drop i shapes) bytes) ≡ Some (front, bytes) = rw (e, append-nil front.fields, append-nil front.sensors, append-nil front.pointing) refl in
    sym so_far ∙ one

-- ---- the same, where the shape of the node is known by its number

pub nodes_go_on_at : (version : Version) (front : NodeLists) (shapes : List Shape) (i : ℕ) (t : Shape) (bytes : List ℕ) (node : NodeState) (after : List ℕ) (total : Option (NodeLists × List ℕ)) → slice_get shapes i ≡ Some t → (node_codec version t).read bytes ≡ Some (node, after)
    → behind_lists front (rows_at (node_codec version) (drop i shapes) bytes) ≡ total → behind_lists (with_node front node) (rows_at (node_codec version) (drop (i + 1) shapes) after) ≡ total
nodes_go_on_at version front shapes i t bytes node after total at h so_far =
    let there : get_or shapes i t ≡ t = get_or_from_slice_get shapes i t t at in
    nodes_go_on version front shapes i t bytes node after total (slice_get_within shapes i t at) (ap (λ (k : Shape). (node_codec version k).read bytes) there ∙ h) so_far

pub nodes_end_at : (version : Version) (e : PartFault) (front : NodeLists) (shapes : List Shape) (i : ℕ) (t : Shape) (bytes : List ℕ) (total : Option (NodeLists × List ℕ)) → slice_get shapes i ≡ Some t → Fails e ((node_codec version t).read bytes)
    → behind_lists front (rows_at (node_codec version) (drop i shapes) bytes) ≡ total → Fails e total
nodes_end_at version e front shapes i t bytes total at h so_far =
    let there : get_or shapes i t ≡ t = get_or_from_slice_get shapes i t t at in
    nodes_end version e front shapes i t bytes total (slice_get_within shapes i t at) (rw there h) so_far

pub nodes_done_at : (version : Version) (front : NodeLists) (scene : SceneView) (i : ℕ) (bytes : List ℕ) (total : Option (NodeLists × List ℕ)) → {count : ℕ} → count ≤ i → count ≡ length scene.nodes
    → behind_lists front (rows_at (node_codec version) (drop i (shapes_of scene)) bytes) ≡ total → total ≡ Some (front, bytes)
nodes_done_at version front scene i bytes total le all so_far =
    nodes_done version front (shapes_of scene) i bytes total (omega (arith, le, all, length-map scene.nodes shape_of)) so_far

-- ---- writing

-- the nodes from a place on
abbrev pub text_from : Version → List Shape → List Fields → List (Option ℕ) → List PointingState → ℕ → List ℕ
text_from version shapes fields sensors pointing i = rows_text (node_codec version) (drop i shapes) (nodes_from (drop i fields) (drop i sensors) (drop i pointing))

split_at : {A : Type 0} (xs : List A) (i : ℕ) (x : A) → i < length xs → x ≡ get_or xs i x → drop i xs ≡ x ∷ drop (i + 1) xs
split_at {A} xs i x lt is =
    let e : drop i xs ≡ get_or xs i x ∷ drop (i + 1) xs = rw (add-one, drop-cons xs i x lt) refl in
    e ∙ ap (λ (y : A). y ∷ drop (i + 1) xs) (sym is)

-- a node more, of those that all lists have
pub text_goes_on : (version : Version) (shapes : List Shape) (fields : List Fields) (sensors : List (Option ℕ)) (pointing : List PointingState) (i count : ℕ) (t : Shape) (f : Fields) (s : Option ℕ) (u : PointingState) (out new total : List ℕ) → i < count → count ≡ min (length shapes) (min (length fields) (min (length sensors) (length pointing)))
    → slice_get shapes i ≡ Some t → f ≡ get_or fields i f → s ≡ get_or sensors i s → u ≡ get_or pointing i u → new ≡ out ++ (node_codec version t).write (record { fields = f; time = s; pointing = u })
    → out ++ text_from version shapes fields sensors pointing i ≡ total → new ++ text_from version shapes fields sensors pointing (i + 1) ≡ total
text_goes_on version shapes fields sensors pointing i count t f s u out new total lt all t-is f-is s-is u-is more so_far =
    let a = split_at shapes i t (omega (arith, lt, all)) (sym (get_or_from_slice_get shapes i t t t-is)) in
    let b = split_at fields i f (omega (arith, lt, all)) f-is in
    let c = split_at sensors i s (omega (arith, lt, all)) s-is in
    let d = split_at pointing i u (omega (arith, lt, all)) u-is in
    let node : NodeState = record { fields = f; time = s; pointing = u } in
    let here : text_from version shapes fields sensors pointing i ≡ (node_codec version t).write node ++ text_from version shapes fields sensors pointing (i + 1) = rw (a, b, c, d) refl in
    ap (λ (z : List ℕ). z ++ text_from version shapes fields sensors pointing (i + 1)) more ∙ append_assoc out ((node_codec version t).write node) (text_from version shapes fields sensors pointing (i + 1)) ∙ ap (λ (z : List ℕ). out ++ z) (sym here) ∙ so_far

none_left : (version : Version) (shapes : List Shape) (fields : List Fields) (sensors : List (Option ℕ)) (pointing : List PointingState) → min (length shapes) (min (length fields) (min (length sensors) (length pointing))) ≡ 0 → rows_text (node_codec version) shapes (nodes_from fields sensors pointing) ≡ []
none_left version [] fields sensors pointing h = refl
none_left version (t ∷ shapes) [] sensors pointing h = refl
none_left version (t ∷ shapes) (f ∷ fields) [] pointing h = refl
none_left version (t ∷ shapes) (f ∷ fields) (s ∷ sensors) [] h = refl
none_left version (t ∷ shapes) (f ∷ fields) (s ∷ sensors) (u ∷ pointing) h = absurd (omega (arith, h))

pub text_done : (version : Version) (shapes : List Shape) (fields : List Fields) (sensors : List (Option ℕ)) (pointing : List PointingState) (i count : ℕ) (out total : List ℕ) → count ≤ i → count ≡ min (length shapes) (min (length fields) (min (length sensors) (length pointing)))
    → out ++ text_from version shapes fields sensors pointing i ≡ total → out ≡ total
text_done version shapes fields sensors pointing i count out total le all so_far =
    let none = none_left version (drop i shapes) (drop i fields) (drop i sensors) (drop i pointing) (omega (arith, le, all, length-drop i shapes, length-drop i fields, length-drop i sensors, length-drop i pointing)) in
    sym (append-nil out) ∙ ap (λ (z : List ℕ). out ++ z) (sym none) ∙ so_far

-- the shapes of a scene's nodes are as many as its nodes
pub counted : (scene : SceneView) (count fields sensors pointing : ℕ) → count ≡ min (length scene.nodes) (min fields (min sensors pointing)) → count ≡ min (length (shapes_of scene)) (min fields (min sensors pointing))
counted scene count fields sensors pointing e = omega (arith, e, length-map scene.nodes shape_of)
