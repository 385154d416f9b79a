-- What a datagram says, as C sees it (our choice).
use Rattle.std.specs.Prelude.{ℕ, ℤ, pos, Bool, true, false, Result, Ok, Err}
use Rattle.share_wire.specs.declared.fault.WireFault.{WireFault}
use Rattle.share_wire.specs.declared.message.Body.{Body}
use Rattle.share_wire.specs.declared.message.Body.TheVariants.{Input, Offer, Ask, Ack, Floor, Piece}
use Rattle.share_wire.specs.declared.message.Message.{Message}
use Rattle.x3d_values.specs.Pointing.{PointerView, RayView}
use Rattle.x3d_values.specs.declared.stamped.Cause.{Cause}
use Rattle.x3d_values.specs.declared.stamped.Cause.TheVariants.{Clock, Pointer}
use Rattle.embed_world.specs.declared.aim.Aim.{Aim}
use Rattle.embed_world.specs.declared.datagram.DatagramAs.{DatagramAs}

-- there is no viewer with this number
abbrev pub no_viewer : ℕ
no_viewer = 255

abbrev pub no_aim : Aim
no_aim = record {
  origin_x = pos 0;
  origin_y = pos 0;
  origin_z = pos 0;
  direction_x = pos 0;
  direction_y = pos 0;
  direction_z = pos 0;
}

abbrev pub aim_of : RayView → Aim
aim_of ray = record {
  origin_x = ray.origin.x;
  origin_y = ray.origin.y;
  origin_z = ray.origin.z;
  direction_x = ray.dir.x;
  direction_y = ray.dir.y;
  direction_z = ray.dir.z;
}

-- a pointer whose button is down or not
abbrev pub point_number : Bool → ℕ
point_number false = 1
point_number true = 2

-- a datagram without a pointer
abbrev pub plain : (tag who boot number : ℕ) → (time : ℤ) → DatagramAs
plain tag who boot number time =
    record {
      tag = tag;
      who = who;
      point = 0;
      boot = boot;
      number = number;
      time = time;
      aim = no_aim;
    }

-- a datagram with a pointer
abbrev pub pointed : (tag boot number : ℕ) → (time : ℤ) → PointerView → DatagramAs
pointed tag boot number time p =
    record {
      tag = tag;
      who = p.who;
      point = point_number p.down;
      boot = boot;
      number = number;
      time = time;
      aim = aim_of p.ray;
    }

abbrev pub input_as : (number : ℕ) → (time : ℤ) → Cause → DatagramAs
input_as number time Clock = plain 1 no_viewer 0 number time
input_as number time (Pointer p) = pointed 1 0 number time p

-- the number of an input, of an offer or of the next input that a viewer lacks; how many offers are
-- numbered; the floor; or how many inputs the world of a piece has had
abbrev pub datagram_as : Body → DatagramAs
datagram_as (Input s) = input_as s.number s.time s.cause
datagram_as (Offer o) = pointed 2 o.boot o.number (pos 0) o.pointer
datagram_as (Ask a) = plain 3 a.who 0 a.next (pos 0)
datagram_as (Ack a) = plain 4 a.who a.boot a.count (pos 0)
datagram_as (Floor f) = plain 5 no_viewer 0 f (pos 0)
datagram_as (Piece p) = plain 6 no_viewer p.boot p.applied (pos 0)

-- what the decoded message says; the old value if there is none
abbrev pub read_by : DatagramAs → Result Message WireFault → DatagramAs
read_by old (Ok message) = datagram_as message.body
read_by old (Err fault) = old
