-- The sizes of the Boxes of a document's scene are in range.
use Rattle.std.proofs.Common.{◌≡◌, true, Option, subst}
use Rattle.x3d_values.specs.declared.value.Value.{Value}
use Rattle.pick_core.proofs.Sized.{are_sized}
use Rattle.laws_worlds.specs.Hits.{DocumentsAreSized}
use Rattle.laws_worlds.proofs.Openings.{scene_ranged}
use Rattle.laws_worlds.proofs.Ranged.{ranged_if}
use Rattle.laws_worlds.proofs.Starts.{node_ranged}

pub sized : DocumentsAreSized
sized flat scene is =
    are_sized scene (λ node field v at. subst (λ (o : Option Value). ranged_if o ≡ true) at (node_ranged scene.nodes node field (scene_ranged flat scene is)))
