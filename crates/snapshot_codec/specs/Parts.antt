-- The parts after a node's fields, and the parts of a world other than its nodes, as bytes (our
-- choice).
use Rattle.std.specs.Prelude.{ℕ, ◌-◌, ◌^◌, ◌++◌, ◌==◌, ◌&&◌, ℤ, pos, Bool, true, false, List, length, Option, Some, None, nat_le, nat_lt, int_lt, unsigned_abs, if◌then◌else◌}
use Rattle.std.specs.Int.{Width, w16, w32, w64}
use Rattle.std.specs.List.{flat_map}
use Rattle.byte_codec.specs.Codec.{Codec, ◌>>?◌, all_fit, many_at, refined, named, pair, times, byte, number, signed, truth}
use Rattle.x3d_values.specs.declared.fields.Position.{Position}
use Rattle.x3d_values.specs.declared.vector.Vec3.{Vec3}
use Rattle.snapshot_codec.specs.declared.plane.Drag.{Drag}
use Rattle.snapshot_codec.specs.declared.plane.Plane.{Plane}
use Rattle.snapshot_codec.specs.declared.viewers.Viewers.{Viewers}
use Rattle.snapshot_codec.specs.declared.viewers.Viewers.TheVariants.{Sixteen, SixtyFour}
use Rattle.snapshot_codec.specs.declared.viewers.Touch.{Touch}
use Rattle.snapshot_codec.specs.Values.{list_of, restricted, vector3}

-- -- a TimeSensor: whether it is active, and the number of its cycle, 0 if it is inactive

abbrev pub cycle_in : Bool × ℤ → Option (Option ℕ)
cycle_in parts =
    if int_lt parts.1 (pos 0) then None
    else (if parts.0 then Some (Some (unsigned_abs parts.1))
    else (if unsigned_abs parts.1 == 0 then Some None else None))

abbrev pub cycle_parts : Option ℕ → Bool × ℤ
cycle_parts None = (false, pos 0)
cycle_parts (Some n) = (true, pos n)

abbrev pub cycle_fits : Option ℕ → Bool
cycle_fits None = true
cycle_fits (Some n) = nat_lt n (2 ^ 63)

-- the number of the cycle that runs, if there is one
unfoldable pub cycle_codec : Codec (Option ℕ)
cycle_codec = refined cycle_in cycle_parts cycle_fits (pair truth (signed w64))

-- ---- sets of viewers: viewer v is bit v

abbrev pub viewer_count : Viewers → ℕ
viewer_count Sixteen = 16
viewer_count SixtyFour = 64

abbrev pub set_width : Viewers → Width
set_width Sixteen = w16
set_width SixtyFour = w64

unfoldable pub viewer_set_codec : Viewers → Codec ℕ
viewer_set_codec viewers = number (set_width viewers)

-- -- a TouchSensor: the viewers over it, and the one that presses it, 255 if there is none

abbrev pub presser_in : ℕ → ℕ → Option (Option ℕ)
presser_in count n =
    if n == 255 then Some None
    else (if nat_lt n count then Some (Some n) else None)

abbrev pub presser_byte : Option ℕ → ℕ
presser_byte None = 255
presser_byte (Some n) = n

abbrev pub presser_fits : ℕ → Option ℕ → Bool
presser_fits count None = true
presser_fits count (Some n) = nat_lt n count

unfoldable pub presser_codec : Viewers → Codec (Option ℕ)
presser_codec viewers =
    refined (presser_in (viewer_count viewers)) presser_byte
    (presser_fits (viewer_count viewers)) byte

unfoldable pub touch_codec : Viewers → Codec Touch
touch_codec viewers = named (λ t. record { over = t.0; presser = t.1 }) (λ t. (t.over, t.presser))
    (pair (viewer_set_codec viewers) (presser_codec viewers))

-- ---- a PlaneSensor: the viewers over it, and the drag

-- up to 64 positions
abbrev pub path_length : Codec ℕ
path_length = restricted (λ n. nat_le n 64) byte

-- a count of one byte, and that many positions
unfoldable pub path_codec : Codec (List ℕ)
path_codec = record {
  write = λ path. path_length.write (length path) ++ flat_map (number w32).write path;
  read = λ bytes. path_length.read bytes >>? λ n. many_at (number w32) n.0 n.1;
  fits = λ path. path_length.fits (length path) && all_fit (number w32) path;
}

-- where the press began, the last translation, and the path to the list with the sensor
abbrev pub Held : Type 0
Held = Vec3 × (Vec3 × List ℕ)

unfoldable pub held_codec : Codec Held
held_codec = pair vector3 (pair vector3 path_codec)

abbrev pub held_of : Drag → Held
held_of drag = (drag.start, (drag.last, drag.path))

abbrev pub drag_with : ℕ → Held → Drag
drag_with presser held =
    record { presser = presser; start = held.0; last = held.1.0; path = held.1.1 }

-- the viewer that presses, 255 if there is none, and what is kept of its drag
abbrev pub drag_text : Option Drag → List ℕ
drag_text None = (presser_codec SixtyFour).write None
drag_text (Some drag) =
    (presser_codec SixtyFour).write (Some drag.presser) ++ held_codec.write (held_of drag)

abbrev pub drag_behind : Option ℕ → List ℕ → Option (Option Drag × List ℕ)
drag_behind None bytes = Some (None, bytes)
drag_behind (Some presser) bytes =
    held_codec.read bytes >>? λ x. Some (Some (drag_with presser x.0), x.1)

abbrev pub drag_fits : Option Drag → Bool
drag_fits None = true
drag_fits (Some drag) =
    (presser_codec SixtyFour).fits (Some drag.presser) && held_codec.fits (held_of drag)

unfoldable pub drag_codec : Codec (Option Drag)
drag_codec = record {
  write = drag_text;
  read = λ bytes. (presser_codec SixtyFour).read bytes >>? λ x. drag_behind x.0 x.1;
  fits = drag_fits;
}

unfoldable pub plane_codec : Codec Plane
plane_codec = named (λ t. record { over = t.0; drag = t.1 }) (λ p. (p.over, p.drag))
    (pair (viewer_set_codec SixtyFour) drag_codec)

-- -- a sequencer: the position of the value that it sent last, 2^32 - 1 if it sent none

abbrev pub position_in : ℕ → Option Position
position_in n =
    if n == 2 ^ 32 - 1 then Some (record { at = None }) else Some (record { at = Some n })

abbrev pub place_number : Option ℕ → ℕ
place_number None = 2 ^ 32 - 1
place_number (Some n) = n

abbrev pub place_fits : Option ℕ → Bool
place_fits None = true
place_fits (Some n) = nat_lt n (2 ^ 32 - 1)

unfoldable pub position_codec : Codec Position
position_codec = refined position_in (λ p. place_number p.at) (λ p. place_fits p.at) (number w32)

-- ---- a script: a count, and its numbers

unfoldable pub state_codec : Codec (List ℤ)
state_codec = list_of (signed w64)

-- the states of `count` scripts
abbrev pub states_codec : ℕ → Codec (List (List ℤ))
states_codec count = times count state_codec
