-- Inputs by their parts, if the parts are in their ranges.
use Rattle.std.specs.Prelude.{ℕ, ℤ, Bool, ◌&&◌, Option, Some, None, if◌then◌else◌}
use Rattle.x3d_values.specs.Pointing.{PointerView, RayView}
pub use Rattle.x3d_values.specs.Pointing.{ray_of}
use Rattle.x3d_values.specs.Ranges.{is_input_number, is_input_time, is_viewer}
use Rattle.x3d_values.specs.Stamp.{StampedView}
use Rattle.x3d_values.specs.declared.stamped.Cause.{Cause}

-- the pointer of a viewer
abbrev pub pointer_of : ℕ → Bool → Option RayView → Option PointerView
pointer_of who down None = None
pointer_of who down (Some ray) =
    if is_viewer who then Some (record { who = who; down = down; ray = ray }) else None

-- the input with this number, at this time
abbrev pub stamped : ℕ → ℤ → Cause → Option StampedView
stamped number time cause =
    if is_input_number number && is_input_time time
    then Some (record { number = number; time = time; cause = cause }) else None
