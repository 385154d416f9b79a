-- The nodes of a scene by their shapes and by their types.
use Rattle.std.proofs.Common.{◌≡◌, ℕ, List, [], ◌∷◌, zero, suc, refl, Option, Some, None, map, true, false}
use Rattle.std.specs.Prelude.{slice_get}
use Rattle.std.specs.Option.{option_map_or}
use Rattle.x3d_values.specs.declared.node_type.NodeType.{NodeType}
use Rattle.x3d_values.specs.declared.value.Value.{Value}
use Rattle.x3d_values.specs.Tables.{FieldRowView}
use Rattle.react_core.specs.Reaction.{is_time_sensor}
use Rattle.scene_core.specs.Scene.{SceneView, rows_at, shape_of, shapes_of, types_of}
use Rattle.scene_core.specs.Shape.{Shape, rows_of}
use Rattle.scene_core.specs.declared.scene.End.{End}
use Rattle.scene_core.specs.declared.scene.SceneNode.{SceneNode}
use Rattle.scene_core.specs.Places.{is_pointing}
use Rattle.cascade_world.specs.Answers.{answer, answer_as, answer_by, is_script, not_run, nothing, setting_at, touching}
use Rattle.cascade_world.specs.declared.world.WorldData.{WorldData}

-- a node of a scene with its type has a shape of that type
pub record HasShape (scene : SceneView) (node : ℕ) (kind : NodeType) : Type 0 where
  pub shape : Shape
  pub at : slice_get (shapes_of scene) node ≡ Some shape
  pub is : shape.node_type ≡ kind

pub shape_at : (scene : SceneView) (node : ℕ) (kind : NodeType) → slice_get (types_of scene) node ≡ Some kind → HasShape scene node kind
shape_at scene node kind h =
    let found = among scene.nodes node h in
    record { shape = found.0; at = found.1; is = found.2 }
  where
    among : (ns : List SceneNode) (i : ℕ) → slice_get (map (λ (n : SceneNode). n.node_type) ns) i ≡ Some kind →
        (shape : Shape) × (slice_get (map shape_of ns) i ≡ Some shape) × (shape.node_type ≡ kind)
    among [] i h = cc
    among (n ∷ ns) zero h = (shape_of n, refl, cc)
    among (n ∷ ns) (suc i) h = among ns i h

pub no_shape : (ns : List SceneNode) (i : ℕ) → slice_get (map (λ (n : SceneNode). n.node_type) ns) i ≡ None → slice_get (map shape_of ns) i ≡ None
no_shape [] i h = refl
no_shape (n ∷ ns) zero h = cc
no_shape (n ∷ ns) (suc i) h = no_shape ns i h

typed : (w : WorldData) (target : End) (v : Value) (kind : NodeType) (found : Option Shape) (s : Shape) → found ≡ Some s → s.node_type ≡ kind →
    answer_by w target v kind (slice_get (option_map_or rows_of found []) target.field) ≡ answer_as w target v found
typed w target v kind found s at is = rw (at, is) refl

-- what the target of an event does goes by its type and the field
pub answer-typed : (scene : SceneView) (w : WorldData) (target : End) (v : Value) (kind : NodeType) → slice_get (types_of scene) target.node ≡ Some kind →
    answer_by w target v kind (slice_get (rows_at scene target.node) target.field) ≡ answer (shapes_of scene) w target v
unfolding answer
answer-typed scene w target v kind h =
    let s = shape_at scene target.node kind h in
    typed w target v kind (slice_get (shapes_of scene) target.node) s.shape s.at s.is

-- where there is no such node nothing happens
pub answer-none : (scene : SceneView) (w : WorldData) (target : End) (v : Value) → slice_get (types_of scene) target.node ≡ None →
    nothing w ≡ answer (shapes_of scene) w target v
unfolding answer
answer-none scene w target v h = rw (no_shape scene.nodes target.node h) refl

-- ---- an event, by the type of its target

module _ (w : WorldData) (target : End) (v : Value) (kind : NodeType) (field : Option FieldRowView) where
  pub by-time : is_time_sensor kind ≡ true → setting_at w target v (slice_get w.fields target.node) ≡ answer_by w target v kind field
  by-time is = rw is refl

  module _ (timeless : is_time_sensor kind ≡ false) where
    pub by-touch : is_pointing kind ≡ true → touching w target v kind (slice_get w.fields target.node) ≡ answer_by w target v kind field
    by-touch is = rw (timeless, is) refl

    pub by-script : is_pointing kind ≡ false → is_script kind ≡ true → not_run w target v field (slice_get w.fields target.node) ≡ answer_by w target v kind field
    by-script untouched is = rw (timeless, untouched, is) refl
