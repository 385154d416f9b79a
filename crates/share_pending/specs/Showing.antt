-- What a host shows: its stored entries alone.
use Rattle.std.specs.Prelude.{ℕ, ◌+◌, ◌-◌, List, slice_get, nat_le, nat_lt, if◌then◌else◌}
use Rattle.std.specs.Prelude.{Option, None, Some, Result, Ok, Err}
use Rattle.std.specs.Option.{option_map}
use Rattle.share_wire.specs.declared.message.Body.{Body}
use Rattle.share_law.specs.declared.fault.FloorFault.{FloorFault}
use Rattle.share_law.specs.declared.fault.FloorFault.TheVariants.{FloorAhead}
use Rattle.share_law.specs.declared.fault.HostFault.{HostFault}
use Rattle.share_rules.specs.declared.kept.SeatCount.{SeatCount}
use Rattle.share_law.specs.declared.reply.HostReply.{HostReply}
use Rattle.share_law.specs.declared.reply.HostReply.TheVariants as reply
use Rattle.share_law.specs.Host.{ack_of}
use Rattle.share_law.specs.Parts.{HostPart, part_drop_below, part_packet}
use Rattle.share_turns.specs.Ends.{floor_for}
use Rattle.share_turns.specs.Heard.{lowest}
use Rattle.share_turns.specs.HostTurn.{datagram_of}

-- the inputs that a reply to an ask names, up to the last stored one
abbrev pub shown_run : (stored first count : ℕ) → HostReply
shown_run stored first count =
    if nat_lt stored first then reply.NothingToDo
    else if nat_le count (stored - first)
    then reply.Asked first count
    else reply.Asked first (stored - first + 1)

abbrev pub shown_reply : (stored : ℕ) → HostReply → HostReply
shown_reply stored (reply.Asked first count) = shown_run stored first count
shown_reply stored (reply.Numbered n) = reply.Numbered n
shown_reply stored reply.Repeat = reply.Repeat
shown_reply stored reply.Ahead = reply.Ahead
shown_reply stored reply.OldBoot = reply.OldBoot
shown_reply stored (reply.Below f) = reply.Below f
shown_reply stored reply.NothingToDo = reply.NothingToDo

abbrev pub shown_answer : (stored : ℕ) → Result HostReply HostFault → Result HostReply HostFault
shown_answer stored (Ok reply) = Ok (shown_reply stored reply)
shown_answer stored (Err fault) = Err fault

-- the input of a packet, if it is stored
abbrev pub shown_packet : (stored : ℕ) → HostPart → (n : ℕ) → Option Body
shown_packet stored p n = if nat_lt stored n then None else part_packet p n

-- the datagram of an input, if it is stored
abbrev pub packet_bytes : (mark : List ℕ) → (stored : ℕ) → HostPart → (n : ℕ)
    → Option (List ℕ)
packet_bytes mark stored p n = option_map (datagram_of mark) (shown_packet stored p n)

-- the datagram of what is kept of a viewer, if there is such a viewer
abbrev pub ack_bytes : (mark : List ℕ) → (kept : List SeatCount) → (who : ℕ) → Option (List ℕ)
ack_bytes mark kept who =
    option_map (λ (k : SeatCount). datagram_of mark (ack_of who k)) (slice_get kept who)

-- Inputs are dropped, but none that isn't stored.
abbrev pub stored_drop : (stored : ℕ) → HostPart → (f : ℕ) → Result ℕ FloorFault × HostPart
stored_drop stored p f =
    if nat_lt stored (f - 1) then (Err FloorAhead, p) else part_drop_below p f

-- Inputs are dropped that every viewer that has asked has, except the last `keep` of them.
abbrev pub dropped_for : (stored keep : ℕ) → Option ℕ → HostPart → HostPart
dropped_for stored keep None p = p
dropped_for stored keep (Some low) p =
    (stored_drop stored p (floor_for keep low p.floor stored)).1

abbrev pub stored_keeping : (stored keep : ℕ) → (heard : List ℕ) → HostPart → HostPart
stored_keeping stored keep heard p = dropped_for stored keep (lowest heard) p
