-- The fields of the nodes of a scene.
use Rattle.std.proofs.Common.{◌≡◌, ℕ, [], Option, Some, None, ap, ◌∙◌}
use Rattle.std.specs.Prelude.{slice_get}
use Rattle.std.specs.Option.{option_map, option_map_or}
use Rattle.std.proofs.lemmas.Grind.{common_steps}
use Rattle.std.proofs.lemmas.Option.{slice_get-map}
use Rattle.scene_core.specs.declared.scene.SceneNode.{SceneNode}
use Rattle.scene_core.specs.Scene.{SceneView, rows_at, shape_of}
use Rattle.scene_core.specs.Shape.{Shape, rows_of}

pub rows_of_node : (s : SceneView) (n : ℕ) (node : SceneNode) → slice_get s.nodes n ≡ Some node → rows_at s n ≡ rows_of (shape_of node)
rows_of_node s n node e = ap (λ (o : Option Shape). option_map_or rows_of o []) (slice_get-map shape_of s.nodes n ∙ ap (λ o. option_map shape_of o) e)

pub rows_of_none : (s : SceneView) (n : ℕ) → slice_get s.nodes n ≡ None → rows_at s n ≡ []
rows_of_none s n e = ap (λ (o : Option Shape). option_map_or rows_of o []) (slice_get-map shape_of s.nodes n ∙ ap (λ o. option_map shape_of o) e)

pub ruleset shapes = (common_steps, rows_of_node, rows_of_none)
