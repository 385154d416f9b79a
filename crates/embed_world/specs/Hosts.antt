-- What the calls on an embedded host answer, and the host that they leave.
use Rattle.std.specs.Prelude.{◌≡◌, ◌==◌, ◌&&◌, ℕ, ℤ, Bool, true, false, not, List, length, unwrap_or, nat_eq, nat_lt, if◌then◌else◌, Option, None, Some, Result, Ok, Err}
use Rattle.std.specs.Cmp.Lexicographic.{pointwise}
use Rattle.sha2.specs.Sha256.{sha256}
use Rattle.x3d_values.specs.Ranges.{max_viewers}
use Rattle.share_wire.specs.Datagram.{datagram}
use Rattle.share_wire.specs.Decoding.{decoded}
use Rattle.share_wire.specs.declared.fault.WireFault.{WireFault}
use Rattle.share_wire.specs.declared.message.Body.{Body}
use Rattle.share_wire.specs.declared.message.Message.{Message}
use Rattle.share_law.specs.Parts.{HostPart, new_part, part_floor_packet}
use Rattle.share_law.specs.declared.fault.FloorFault.{FloorFault}
use Rattle.share_law.specs.declared.fault.HostFault.{HostFault}
use Rattle.share_law.specs.declared.fault.HostFault.TheVariants.{BadViewer}
use Rattle.share_law.specs.declared.fault.NumberFault.{NumberFault}
use Rattle.share_law.specs.declared.reply.HostReply.{HostReply}
use Rattle.share_turns.specs.Heard.{asked, nobody}
use Rattle.share_turns.specs.HostTurn.{hears, sender_in}
use Rattle.embed_world.specs.Lasting.{IsClockedBy, IsTakenBy, ack_by, drop_by, keeping_by, packet_by}
use Rattle.embed_world.specs.declared.host.EmbeddedHost.{EmbeddedHost}

-- the host of a scene's text, for this number of viewers
abbrev pub started : List ℕ → ℕ → Option EmbeddedHost
started text viewers =
    if nat_lt viewers 1 then None
    else if nat_lt max_viewers viewers then None
    else Some (record {
      host = record { mark = sha256 text; part = new_part viewers };
      heard = nobody;
      lasting = None;
    })

abbrev pub with_part : EmbeddedHost → HostPart → EmbeddedHost
with_part h part = record h { host = record { mark = h.host.mark; part = part } }

-- a clock is numbered, or refused, as share_core's host does; its entry waits if the host has a log
abbrev pub Clocks : EmbeddedHost → ℤ → Result ℕ NumberFault → EmbeddedHost → Type 0
Clocks old time result new =
    IsClockedBy old.lasting old.host.part time result new.host.part new.lasting
    × (new ≡ record (with_part old new.host.part) { lasting = new.lasting })

-- what the host has heard after these bytes came
abbrev pub heard_after : EmbeddedHost → List ℕ → List ℕ
heard_after h bytes = hears h.host.mark (length h.host.part.kept) h.heard bytes

-- bytes are taken, or refused, as share_core's host does; an ask of one of its viewers is heard;
-- the entry of an offer waits if the host has a log
abbrev pub HostTakes : EmbeddedHost → List ℕ → Result HostReply HostFault → EmbeddedHost → Type 0
HostTakes old bytes result new =
    IsTakenBy old.host.mark old.lasting old.host.part (decoded bytes) result new.host.part
    new.lasting
    × (new ≡ record (with_part old new.host.part) {
      heard = heard_after old bytes;
      lasting = new.lasting;
    })

abbrev pub is_other : ℕ → Option ℕ → Bool
is_other who None = false
is_other who (Some sender) = not (sender == who)

-- an offer or an ask, for the scene with this mark, of another viewer than `who`
abbrev pub is_anothers : (mark : List ℕ) → (who : ℕ) → Result Message WireFault → Bool
is_anothers mark who (Ok message) =
    pointwise nat_eq message.mark mark && is_other who (sender_in message.body)
is_anothers mark who (Err fault) = false

-- bytes are taken, unless they are another's: then nothing changes
abbrev pub TakesUnless : Bool → EmbeddedHost → List ℕ → Result HostReply HostFault → EmbeddedHost
    → Type 0
TakesUnless true old bytes result new = (result ≡ Err BadViewer) × (new ≡ old)
TakesUnless false old bytes result new = HostTakes old bytes result new

-- bytes that came from viewer `who` are taken
abbrev pub HostTakesFrom : EmbeddedHost → (who : ℕ) → List ℕ → Result HostReply HostFault
    → EmbeddedHost → Type 0
HostTakesFrom old who bytes result new =
    TakesUnless (is_anothers old.host.mark who (decoded bytes)) old bytes result new

-- the highest number that viewer `who` has asked from, 0 if it hasn't asked
abbrev pub heard_of : EmbeddedHost → (who : ℕ) → Option ℕ
heard_of h who =
    if nat_lt who (length h.host.part.kept) then Some (unwrap_or (asked h.heard who) 0) else None

-- the host without the inputs that every viewer that asked has, except the last `count` of them,
-- but with all that aren't stored if it has a log
abbrev pub keeping : EmbeddedHost → (count : ℕ) → EmbeddedHost
keeping h count = with_part h (keeping_by h.lasting count h.heard h.host.part)

abbrev pub host_datagram : EmbeddedHost → Body → List ℕ
host_datagram h body = datagram (record { mark = h.host.mark; body = body })

-- the datagram of the input with a number; if the host has a log, it is stored
abbrev pub input_bytes : EmbeddedHost → ℕ → Option (List ℕ)
input_bytes h number = packet_by h.host.mark h.lasting h.host.part number

-- the datagram that says how many offers of a viewer are numbered, and stored if the host has a log
abbrev pub ack_bytes : EmbeddedHost → ℕ → Option (List ℕ)
ack_bytes h who = ack_by h.host.mark h.lasting h.host.part who

-- the datagram that says the floor
abbrev pub floor_bytes : EmbeddedHost → List ℕ
floor_bytes h = host_datagram h (part_floor_packet h.host.part)

abbrev pub with_floor : EmbeddedHost → Result ℕ FloorFault × HostPart
    → Result ℕ FloorFault × EmbeddedHost
with_floor h step = (step.0, with_part h step.1)

-- the host without the inputs below a number, or why it keeps them
abbrev pub dropped_below : EmbeddedHost → ℕ → Result ℕ FloorFault × EmbeddedHost
dropped_below h floor = with_floor h (drop_by h.lasting h.host.part floor)

-- inputs are dropped, or kept, as share_core's host does, but none that isn't stored if the host
-- has a log
abbrev pub Drops : EmbeddedHost → ℕ → Result ℕ FloorFault → EmbeddedHost → Type 0
Drops old floor result new = dropped_below old floor ≡ (result, new)
