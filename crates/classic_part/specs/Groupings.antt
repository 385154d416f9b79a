-- Grouping nodes outside the table of node types (ISO/IEC 19775-1, clauses 9, 10, 13, 22, 23, 25,
-- 26, 32, 35 and 36), the node of the table that each becomes, and the field that holds its
-- children. Only an Inline (9.4.2) has no such field: its children are in another file.
use Rattle.std.specs.Prelude.{List, [], ◌∷◌, ℕ, Bool, false, codes, ◌||◌}
use Rattle.std.specs.Str.{bytes_eq}
use Rattle.x3d_values.specs.declared.node_type.NodeType.{NodeType}
use Rattle.x3d_values.specs.declared.node_type.NodeType.TheVariants.{Group, Transform}
use Rattle.classic_part.specs.declared.grouping_nodes.Grouping.{Grouping}
use Rattle.classic_part.specs.declared.grouping_nodes.ChildrenField.{ChildrenField}
use Rattle.classic_part.specs.declared.grouping_nodes.ChildrenField.TheVariants.{Children, Levels, Skeleton, FaceShape, RootNode, Layers, Nowhere}

pub record GroupingRow : Type 0 where
  pub word : List ℕ
  pub becomes : NodeType
  pub children : ChildrenField

abbrev pub entry : Grouping → GroupingRow
entry g = record { word = g.word.now; becomes = g.becomes; children = g.children }

abbrev pub row : List ℕ → NodeType → ChildrenField → GroupingRow
row word becomes children = record { word = word; becomes = becomes; children = children }

-- the nodes with fields of a Transform become one
abbrev pub table : List GroupingRow
table =
    row (codes "Anchor") Group Children
    ∷ row (codes "Billboard") Group Children
    ∷ row (codes "Collision") Group Children
    ∷ row (codes "LOD") Group Levels
    ∷ row (codes "StaticGroup") Group Children
    ∷ row (codes "ViewpointGroup") Group Children
    ∷ row (codes "PickableGroup") Group Children
    ∷ row (codes "ScreenGroup") Group Children
    ∷ row (codes "LayoutGroup") Group Children
    ∷ row (codes "LayoutLayer") Group Children
    ∷ row (codes "Layer") Group Children
    ∷ row (codes "LayerSet") Group Layers
    ∷ row (codes "Viewport") Group Children
    ∷ row (codes "CADLayer") Group Children
    ∷ row (codes "CADAssembly") Group Children
    ∷ row (codes "CADPart") Transform Children
    ∷ row (codes "CADFace") Group FaceShape
    ∷ row (codes "GeoLocation") Group Children
    ∷ row (codes "GeoTransform") Transform Children
    ∷ row (codes "GeoLOD") Group RootNode
    ∷ row (codes "EspduTransform") Transform Children
    ∷ row (codes "HAnimHumanoid") Transform Skeleton
    ∷ row (codes "HAnimJoint") Transform Children
    ∷ row (codes "HAnimSegment") Group Children
    ∷ row (codes "HAnimSite") Transform Children
    ∷ row (codes "Inline") Group Nowhere
    ∷ []

-- a field of that name holds the children; those of a LOD were its `level` in VRML 97
abbrev pub holds_children : ChildrenField → List ℕ → Bool
holds_children Children name = bytes_eq name (codes "children")
holds_children Levels name = bytes_eq name (codes "children") || bytes_eq name (codes "level")
holds_children Skeleton name = bytes_eq name (codes "skeleton")
holds_children FaceShape name = bytes_eq name (codes "shape")
holds_children RootNode name = bytes_eq name (codes "rootNode")
holds_children Layers name = bytes_eq name (codes "layers")
holds_children Nowhere name = false
