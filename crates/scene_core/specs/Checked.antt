-- Parts of the definition of a scene, for the functions that make it. They define nothing new.
use Rattle.std.specs.Prelude.{ℕ, List, Result, Ok}
use Rattle.proto_flat.specs.declared.flat.Flat.{Flat}
use Rattle.scene_core.specs.declared.fault.SceneFault.{SceneFault}
use Rattle.scene_core.specs.declared.numbering.Numbering.{Numbering}
use Rattle.scene_core.specs.declared.scene.SceneNode.{SceneNode}
use Rattle.scene_core.specs.Building.{limits, nodes_of}
use Rattle.scene_core.specs.Faults.{◌>>=◌}
use Rattle.scene_core.specs.Typed.{all_children}

-- roots and helpers are child nodes, and no limit is exceeded
abbrev pub check : Flat → List SceneNode → List ℕ → Result (Unit {0}) SceneFault
check flat nodes roots =
    all_children flat.nodes flat.roots >>= λ _.
    all_children flat.nodes flat.helpers >>= λ _.
    limits nodes roots

-- the nodes of a scene with these roots, if the checks pass
abbrev pub checked_nodes : Flat → Numbering → List ℕ → Result (List SceneNode) SceneFault
checked_nodes flat s roots =
    nodes_of flat.nodes s >>= λ nodes.
    check flat nodes roots >>= λ _.
    Ok nodes
