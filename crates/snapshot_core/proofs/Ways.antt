-- A drag with too long a way isn't one.
use Rattle.std.proofs.Common.{◌≡◌, ℕ, Bool, true, false, ◌&&◌, Option, Some, None, if◌then◌else◌, refl}
use Rattle.x3d_values.specs.Ranges.{coordinates_fit, is_viewer}
use Rattle.sensor_plane.specs.declared.drag.Drag.{Drag}
use Rattle.sensor_plane.specs.Paths.{path_fits}
use Rattle.sensor_plane.specs.PlaneParts.{drag_fits, plane_of_parts}

abbrev some : Drag → Option Drag
some drag = Some drag

not_both : (a b : Bool) → ((a && false) && b) ≡ false
not_both true b = refl
not_both false b = refl

no_drag : (drag : Drag) → path_fits drag.path ≡ false → drag_fits (some drag) ≡ false
no_drag drag is = rw is (not_both (is_viewer drag.presser) (coordinates_fit drag.start && coordinates_fit drag.last))

pub no_way : (over : ℕ) (drag : Drag) (fits : Bool) → path_fits drag.path ≡ fits → None ≡ (if fits then some drag else None) → None ≡ plane_of_parts (record { over = over; drag = some drag })
unfolding plane_of_parts
no_way over drag true is e = absurd cc
no_way over drag false is e = let k : drag_fits (some drag) ≡ false = no_drag drag is in rw k refl
