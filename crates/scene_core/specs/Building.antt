-- The scene of a document (ISO/IEC 19775-1, scene graph).
use Rattle.std.specs.Prelude.{◌≡◌, ℕ, ◌++◌, Bool, ◌||◌, nat_lt, length, List, [], ◌∷◌, map, Option, Some, None, Result, Ok, Err, slice_get, slice_index_or, if◌then◌else◌}
use Rattle.proto_flat.specs.declared.flat.Flat.{Flat}
use Rattle.proto_flat.specs.declared.flat.FlatNode.{FlatNode}
use Rattle.scene_core.specs.declared.fault.SceneFault.{SceneFault}
use Rattle.scene_core.specs.declared.fault.SceneFaultKind.TheVariants.{TooDeep, TooMany}
use Rattle.scene_core.specs.declared.numbering.Numbering.{Numbering}
use Rattle.scene_core.specs.declared.scene.SceneNode.{SceneNode}
use Rattle.x3d_values.specs.Ranges.{max_depth, max_places}
use Rattle.scene_core.specs.Deep.{too_deep}
use Rattle.scene_core.specs.Faults.{fault, through, ◌>>=◌}
use Rattle.scene_core.specs.Labels.{label_by, is_alone, is_label, names_of}
use Rattle.scene_core.specs.Numbers.{numbering}
use Rattle.scene_core.specs.Places.{places, any_crowded}
use Rattle.scene_core.specs.Scene.{SceneView}
use Rattle.scene_core.specs.Shape.{declared_by}
use Rattle.scene_core.specs.Typed.{values_of, all_children}
use Rattle.scene_core.specs.Wide.{any_wide}

-- a node, which keeps its name if the name is its label
abbrev pub node_of : List FlatNode → List ℕ → (List ℕ → Bool) → FlatNode
    → Result SceneNode SceneFault
node_of nodes numbers is_label node =
    values_of nodes numbers node >>= λ values.
    Ok (record {
      node_type = node.node_type;
      label = label_by is_label node.name;
      declared = map declared_by node.interface;
      values = values;
    })

-- appends the next node, whose number is the count of the earlier nodes
abbrev pub with_node : List FlatNode → List ℕ → (List ℕ → Bool) → Option FlatNode → List SceneNode
    → Result (List SceneNode) SceneFault
with_node nodes numbers alone None made = Ok made
with_node nodes numbers alone (Some node) made =
    node_of nodes numbers (is_label alone (length made)) node >>= λ n. Ok (made ++ n ∷ [])

unfoldable pub nodes_by : List FlatNode → Numbering → (List ℕ → Bool)
    → Result (List SceneNode) SceneFault
nodes_by nodes s alone =
    through (λ n made. with_node nodes s.numbers alone (slice_get nodes n) made) s.order []

-- the nodes in the order of their numbers
abbrev pub nodes_of : List FlatNode → Numbering → Result (List SceneNode) SceneFault
nodes_of nodes s = nodes_by nodes s (is_alone (names_of nodes s.order))

-- chains are checked first, then places, sensors and fields
unfoldable pub limits : List SceneNode → List ℕ → Result (Unit {0}) SceneFault
limits nodes roots =
    if too_deep nodes
    then Err (fault TooDeep 0)
    else (if nat_lt max_places (places max_depth nodes roots)
    || (any_crowded nodes roots || any_wide nodes)
    then Err (fault TooMany 0)
    else Ok tt)

-- a scene keeps the limits
abbrev pub IsLimited : List SceneNode → List ℕ → Type 0
IsLimited nodes roots = limits nodes roots ≡ Ok tt

-- the numbers that nodes have in the scene
abbrev pub called : List ℕ → List ℕ → List ℕ
called numbers ns = map (λ n. slice_index_or numbers n 0) ns

abbrev pub scene_by : Flat → Numbering → Result SceneView SceneFault
scene_by flat s =
    nodes_of flat.nodes s >>= λ nodes.
    all_children flat.nodes flat.roots >>= λ _.
    all_children flat.nodes flat.helpers >>= λ _.
    limits nodes (called s.numbers flat.roots) >>= λ _.
    Ok (record {
      header = flat.header;
      nodes = nodes;
      roots = called s.numbers flat.roots;
      helpers = called s.numbers flat.helpers;
      opened = s.opened;
      numbers = s.numbers;
    })

-- the scene of a document, or its first fault
unfoldable pub scene_of : Flat → Result SceneView SceneFault
scene_of flat = scene_by flat (numbering flat.nodes flat.roots flat.helpers)
