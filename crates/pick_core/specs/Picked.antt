-- One hit out of a list of boxes: the earlier box is kept unless a later one is strictly nearer.
use Rattle.std.specs.Prelude.{◌*◌, nat_lt, Bool, true, List, Option, Some, None, if◌then◌else◌}
use Rattle.std.specs.List.{fold}
use Rattle.x3d_values.specs.declared.fields.Fields.{Fields}
use Rattle.x3d_values.specs.Pointing.{RayView}
use Rattle.scene_core.specs.Scene.{SceneView}
use Rattle.pick_core.specs.Boxes.{Placed, boxes}
use Rattle.pick_rules.specs.Entry.{entry_of}
use Rattle.pick_core.specs.Nearest.{IsPicked}
use Rattle.pick_rules.specs.declared.bounds.Fraction.{Fraction}
use Rattle.pick_core.specs.declared.hit.Hit.{Hit}

abbrev pub is_nearer : Fraction → Option Hit → Bool
is_nearer at None = true
is_nearer at (Some hit) = nat_lt (at.n * hit.m) (hit.n * at.m)

-- the fraction of the best hit
abbrev pub fraction_of : Option Hit → Option Fraction
fraction_of None = None
fraction_of (Some hit) = Some (record { n = hit.n; m = hit.m })

abbrev pub hit_at : Placed → Fraction → Hit
hit_at b at = record { path = b.path; n = at.n; m = at.m }

abbrev pub closer : Placed → Option Hit → Option Fraction → Option Hit
closer b best None = best
closer b best (Some at) = if is_nearer at best then Some (hit_at b at) else best

unfoldable pub nearer : RayView → Option Hit → Placed → Option Hit
nearer ray best b = closer b best (entry_of b.bounds ray)

-- the hit that is picked out of boxes
abbrev pub picked : RayView → List Placed → Option Hit
picked ray bs = fold (nearer ray) None bs

-- the hit that is picked is the nearest of a scene's boxes
abbrev pub PicksNearest : Type 0
PicksNearest = (scene : SceneView) (state : List Fields) (ray : RayView)
    → IsPicked ray (boxes scene state) (picked ray (boxes scene state))
