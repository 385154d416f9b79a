-- The places of boxes, shown or not, and the rows that a cache stores for them.
use Rattle.std.specs.Prelude.{◌≡◌, ℕ, zero, suc, pos, negsuc, ℤ, List, [], ◌∷◌, ◌++◌, map, slice_get, Option, Some, None, Bool, true, false, ◌==◌, ◌&&◌, if◌then◌else◌}
use Rattle.std.specs.List.{list_any}
use Rattle.x3d_values.specs.Ranges.{max_depth}
use Rattle.x3d_values.specs.declared.fields.Fields.{Fields}
use Rattle.x3d_values.specs.declared.vector.Vec3.{Vec3}
use Rattle.scene_core.specs.Scene.{SceneView}
use Rattle.pick_core.specs.Boxes.{Placed}
use Rattle.pick_core.specs.Looks.{kind_of, listed, motion_of, choice_of}
use Rattle.pick_core.specs.Motion.{box_of}
use Rattle.pick_core.specs.Spread.{spread}
use Rattle.pick_core.specs.Trail.{carried, positions}
use Rattle.pick_core.specs.declared.row.BoxRow.{BoxRow}
use Rattle.pick_core.specs.declared.look.Role.{Role}
use Rattle.pick_core.specs.declared.look.Role.TheVariants.{Group, Transform, Switch, Shape, Other}
use Rattle.pick_core.specs.declared.trail.Place.{Place}

-- a box of a size at the end of a trail
pub record Site : Type 0 where
  pub trail : List Place
  pub size : Vec3

abbrev pub site_under : ℕ → ℕ → Site → Site
site_under position node s =
    record { trail = record { position = position; node = node } ∷ s.trail; size = s.size }

abbrev pub site_layer : (ℕ → List Site) → Role → List ℕ → List Site
site_layer inside Group children = spread site_under inside 0 children
site_layer inside Transform children = spread site_under inside 0 children
site_layer inside Switch children = spread site_under inside 0 children
site_layer inside (Shape None) children = []
site_layer inside (Shape (Some size)) children = record { trail = []; size = size } ∷ []
site_layer inside Other children = []

unfoldable pub sites_in : SceneView → ℕ → ℕ → List Site
sites_in scene zero node = []
sites_in scene (suc depth) node =
    site_layer (sites_in scene depth) (kind_of scene node) (listed scene node)

-- all places of boxes in the scene
unfoldable pub sites : SceneView → List Site
sites scene = spread site_under (sites_in scene max_depth) 0 scene.roots

-- a Switch shows one child
abbrev pub shows : ℤ → ℕ → Bool
shows (pos which) position = which == position
shows (negsuc which) position = false

abbrev pub allows_as : ℤ → Role → ℕ → Bool
allows_as which Switch position = shows which position
allows_as which Group position = true
allows_as which Transform position = true
allows_as which (Shape size) position = true
allows_as which Other position = true

-- whether a node shows its child at a position
unfoldable pub allows : SceneView → List Fields → ℕ → ℕ → Bool
allows scene state node position =
    allows_as (choice_of (slice_get state node)) (kind_of scene node) position

-- whether all nodes of a trail that begins below a node are shown
unfoldable pub is_shown : SceneView → List Fields → ℕ → List Place → Bool
is_shown scene state node [] = true
is_shown scene state node (p ∷ ps) =
    allows scene state node p.position && is_shown scene state p.node ps

-- like `is_shown`, for a trail from the roots
abbrev pub is_shown_from_roots : SceneView → List Fields → List Place → Bool
is_shown_from_roots scene state [] = true
is_shown_from_roots scene state (p ∷ ps) = is_shown scene state p.node ps

-- ---- rows

-- the row of a box of a size at the end of a trail
abbrev pub row_of : SceneView → List Fields → List Place → Vec3 → BoxRow
row_of scene state trail size =
    record {
      trail = trail;
      size = size;
      bounds = carried scene state trail (box_of size);
      shown = is_shown_from_roots scene state trail;
    }

-- the row of a box below the end of a trail
abbrev pub row_at : SceneView → List Fields → List Place → Site → BoxRow
row_at scene state trail s = row_of scene state (trail ++ s.trail) s.size

-- the rows of a scene in a state
unfoldable pub rows_of : SceneView → List Fields → List BoxRow
rows_of scene state = map (λ (s : Site). row_of scene state s.trail s.size) (sites scene)

abbrev pub placed_row : BoxRow → Placed
placed_row r = record { path = positions r.trail; bounds = r.bounds }

-- the boxes of the rows that are shown
unfoldable pub shown_rows : List BoxRow → List Placed
shown_rows [] = []
shown_rows (r ∷ rs) = if r.shown then placed_row r ∷ shown_rows rs else shown_rows rs

-- a row updated to a state
abbrev pub fresh : SceneView → List Fields → BoxRow → BoxRow
fresh scene state r = row_of scene state r.trail r.size

-- whether a trail leads through a node
abbrev pub touches : ℕ → List Place → Bool
touches node trail = list_any (λ (p : Place). p.node == node) trail

-- a row updated to a state that differs at a node
abbrev pub renewed : SceneView → List Fields → ℕ → BoxRow → BoxRow
renewed scene state node r = if touches node r.trail then fresh scene state r else r

-- two states are equal except at a node
abbrev pub IsSameBut : ℕ → List Fields → List Fields → Type 0
IsSameBut node before after = (k : ℕ) → (k ≡ node → ⊥) → slice_get before k ≡ slice_get after k

-- a ray sees the same with fields `a` of a node as with fields `b`: the motion of a Transform is
-- equal, or the choice of a Switch
abbrev pub IsAlike : Role → Option Fields → Option Fields → Type 0
IsAlike Transform a b = motion_of a ≡ motion_of b
IsAlike Switch a b = choice_of a ≡ choice_of b
IsAlike Group a b = Unit {0}
IsAlike (Shape size) a b = Unit {0}
IsAlike Other a b = Unit {0}

abbrev pub AreAlike : SceneView → List Fields → List Fields → Type 0
AreAlike scene before after = (k : ℕ)
    → IsAlike (kind_of scene k) (slice_get before k) (slice_get after k)

-- a change that a ray can't see changes no row
abbrev pub AlikeRows : Type 0
AlikeRows = (scene : SceneView) (before after : List Fields) → AreAlike scene before after
    → rows_of scene before ≡ rows_of scene after
