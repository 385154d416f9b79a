use Rattle.std.proofs.Common.{refl}
use Rattle.sensor_plane.specs.Paths.{path_fits}
use Rattle.snapshot_core.specs.Beside.{drag_in}
use Rattle.snapshot_core.proofs.Ways.{no_way}
use Rattle.snapshot_core.proofs.dragging.pressed_in.Goals as goal

pub returns-in_default : goal.returns-in_default
returns-in_default c = no_way c.args.over (drag_in c.args.drag.now) (path_fits c.args.drag.now.path) refl c.in_default.ensures
