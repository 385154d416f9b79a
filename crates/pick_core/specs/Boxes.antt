-- The boxes of a scene in a state, with their places (ISO/IEC 19775-1, grouping component: Group,
-- Transform, Switch).
use Rattle.std.specs.Prelude.{ℕ, zero, suc, ℤ, pos, negsuc, List, [], ◌∷◌, map, Option, Some, None, slice_get}
use Rattle.std.specs.Option.{option_map}
use Rattle.x3d_values.specs.Ranges.{max_depth}
use Rattle.x3d_values.specs.declared.fields.Fields.{Fields}
use Rattle.scene_core.specs.Scene.{SceneView}
use Rattle.pick_rules.specs.declared.bounds.Bounds.{Bounds}
use Rattle.pick_core.specs.declared.look.Role.{Role}
use Rattle.pick_core.specs.declared.look.Role.TheVariants.{Group, Transform, Switch, Shape, Other}
use Rattle.pick_core.specs.declared.trail.Place.{Place}
use Rattle.pick_core.specs.Looks.{kind_of, listed, choice_of}
use Rattle.pick_core.specs.Motion.{moved_at, box_of}
use Rattle.pick_core.specs.Spread.{spread}

-- a box and the positions that lead to it
pub record Placed : Type 0 where
  pub path : List ℕ
  pub bounds : Bounds

-- a box inside the node at a position, seen from outside the node
abbrev pub under : SceneView → List Fields → ℕ → ℕ → Placed → Placed
under scene state position node p = record {
  path = position ∷ p.path;
  bounds = moved_at scene state node p.bounds;
}

-- the child that a Switch shows; None if the choice is negative or too large
unfoldable pub shown_child : List ℕ → ℤ → Option Place
shown_child children (pos which) =
    option_map (λ node. record { position = which; node = node }) (slice_get children which)
shown_child children (negsuc which) = None

abbrev pub shown : (ℕ → ℕ → Placed → Placed) → (ℕ → List Placed) → Option Place → List Placed
shown seen inside None = []
shown seen inside (Some p) = map (seen p.position p.node) (inside p.node)

abbrev pub layer : (ℕ → ℕ → Placed → Placed) → (ℕ → List Placed) → ℤ → Role → List ℕ → List Placed
layer seen inside which Group children = spread seen inside 0 children
layer seen inside which Transform children = spread seen inside 0 children
layer seen inside which Switch children = shown seen inside (shown_child children which)
layer seen inside which (Shape None) children = []
layer seen inside which (Shape (Some size)) children =
    record { path = []; bounds = box_of size } ∷ []
layer seen inside which Other children = []

-- the boxes inside a node, at most this many nodes deep, in the node's own coordinates
unfoldable pub inside : SceneView → List Fields → ℕ → ℕ → List Placed
inside scene state zero node = []
inside scene state (suc depth) node =
    layer (under scene state) (inside scene state depth) (choice_of (slice_get state node))
    (kind_of scene node) (listed scene node)

-- the boxes in the world; no chain of nodes in a scene is longer than `max_depth`
unfoldable pub boxes : SceneView → List Fields → List Placed
boxes scene state = spread (under scene state) (inside scene state max_depth) 0 scene.roots
