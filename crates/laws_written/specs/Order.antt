-- The nodes of a scene are written in the order in which they are numbered (our choice of order).
use Rattle.std.specs.Prelude.{◌≡◌, ◌+◌, ℕ, List, [], length, Ok}
use Rattle.proto_flat.specs.declared.flat.Flat.{Flat}
use Rattle.proto_flat.specs.declared.flat.FlatNode.{FlatNode}
use Rattle.scene_core.specs.declared.numbering.Numbering.{Numbering}
use Rattle.scene_core.specs.Building.{scene_of}
use Rattle.scene_core.specs.Numbers.{numbering, visit}
use Rattle.scene_text.specs.Statements.{helpers_of, roots_of}
use Rattle.scene_text.specs.Tree.{PlanView, node_tree}
use Rattle.laws_written.specs.ScenesAgain.{HaveChildren}
use Rattle.laws_written.specs.Writable.{AreKeepable, IsShallow}

-- a document's scene is written, with what its nodes keep; each node contains the nodes that the
-- scene's node contains
pub record IsWritten (flat : Flat) (p : PlanView) (nodes : List FlatNode) : Type 0 where
  pub is_scene : scene_of flat ≡ Ok p.scene
  pub kept : AreKeepable p.state
  pub many : length nodes ≡ length p.scene.nodes
  pub children : HaveChildren p.scene nodes

-- after a node is written, the nodes that have appeared in the text are those that have appeared in
-- the numbering after the node was visited, if chains that begin at it are short enough
abbrev pub NodesInOrder : Type 0
NodesInOrder =
    (flat : Flat) (p : PlanView) (nodes : List FlatNode) → IsWritten flat p nodes
    → (s : Numbering) (depth n : ℕ) → length s.opened ≡ length nodes → IsShallow p.scene depth n
    → (node_tree depth p s.opened n).seen ≡ (visit (length nodes + 1) nodes s n).opened

-- the same holds after the roots, and after the helpers
abbrev pub RootsInOrder : Type 0
RootsInOrder =
    (flat : Flat) (p : PlanView) (nodes : List FlatNode) → IsWritten flat p nodes
    → (roots_of p).seen ≡ (numbering nodes p.scene.roots []).opened

abbrev pub HelpersInOrder : Type 0
HelpersInOrder =
    (flat : Flat) (p : PlanView) (nodes : List FlatNode) → IsWritten flat p nodes
    → (helpers_of p (roots_of p).seen).seen
    ≡ (numbering nodes p.scene.roots p.scene.helpers).opened
