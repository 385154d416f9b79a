-- What a host does: one call on it after another, and what its port records of them.
use Rattle.std.specs.Prelude.{◌≡◌, ℕ, ℤ, List, [], ◌∷◌, ◌++◌, Option, None, Some, Result}
use Rattle.std.specs.Option.{option_map}
use Rattle.share_wire.specs.Decoding.{decoded}
use Rattle.share_wire.specs.declared.message.Body.{Body}
use Rattle.share_law.specs.declared.fault.FloorFault.{FloorFault}
use Rattle.share_law.specs.declared.fault.HostFault.{HostFault}
use Rattle.share_law.specs.declared.fault.NumberFault.{NumberFault}
use Rattle.share_law.specs.declared.reply.HostReply.{HostReply}
use Rattle.share_law.specs.declared.step.Step.{Step}
use Rattle.share_law.specs.declared.step.Step.TheVariants.{HostAck, HostFloorPacket, HostPacket}
use Rattle.share_law.specs.Calls.{IsPartClocked, IsPartTakeOf}
use Rattle.share_law.specs.Parts.{HostPart, part_ack, part_drop_below, part_floor_packet}
use Rattle.share_law.specs.Parts.{part_packet}
use Rattle.share_turns.specs.declared.traffic.Datagram.{Datagram}
use Rattle.share_turns.specs.declared.traffic.Traffic.{Traffic}
use Rattle.share_turns.specs.declared.traffic.Traffic.TheVariants.{Nothing, Received, Sent}
use Rattle.share_turns.specs.HostTurn.{datagram_of}
use Rattle.share_turns.specs.Told.{Grows}

-- a clock, a datagram that is taken, the packet of a step that is sent, a new floor, and a receive
-- for which nothing had arrived
pub data HostDoing : Type 0 where
  Clocks : (time : ℤ) → Result ℕ NumberFault → HostDoing
  Takes : (came : Datagram) → Result HostReply HostFault → HostDoing
  Sends : (step : Step) → (sent : Datagram) → HostDoing
  Drops : (floor : ℕ) → Result ℕ FloorFault → HostDoing
  Waits : HostDoing

-- the packet that the step of this host sends
abbrev pub packet_by : HostPart → Step → Option Body
packet_by p (HostPacket n) = part_packet p n
packet_by p (HostAck who) = part_ack p who
packet_by p HostFloorPacket = Some (part_floor_packet p)
packet_by p step = None

-- what the call's contract ensures of the host
abbrev pub IsHostDoing : (mark : List ℕ) → HostPart → HostDoing → HostPart → Type 0
IsHostDoing mark old (Clocks time result) new = IsPartClocked old time result new
IsHostDoing mark old (Takes came result) new =
    IsPartTakeOf mark old (decoded came.bytes) result new
IsHostDoing mark old (Sends step sent) new =
    (new ≡ old) × (option_map (datagram_of mark) (packet_by old step) ≡ Some sent.bytes)
IsHostDoing mark old (Drops floor result) new = part_drop_below old floor ≡ (result, new)
IsHostDoing mark old Waits new = new ≡ old

-- one after another
abbrev pub AreHostDoings : (mark : List ℕ) → HostPart → List HostDoing → HostPart → Type 0
AreHostDoings mark old [] new = new ≡ old
AreHostDoings mark old (d ∷ ds) new =
    (mid : HostPart) × IsHostDoing mark old d mid × AreHostDoings mark mid ds new

-- what a port records
abbrev pub host_traffic : HostDoing → List Traffic
host_traffic (Clocks time result) = []
host_traffic (Takes came result) = Received came ∷ []
host_traffic (Sends step sent) = Sent sent ∷ []
host_traffic (Drops floor result) = []
host_traffic Waits = Nothing ∷ []

abbrev pub all_host_traffic : List HostDoing → List Traffic
all_host_traffic [] = []
all_host_traffic (d ∷ ds) = host_traffic d ++ all_host_traffic ds

-- calls that lead from the one host to the other, and that are all that the port recorded
pub record HostDoes (mark : List ℕ) (told_before told_after : Option (List Traffic))
    (old new : HostPart) : Type 0 where
  pub doings : List HostDoing
  pub calls : AreHostDoings mark old doings new
  pub told : Grows told_before told_after (all_host_traffic doings)
