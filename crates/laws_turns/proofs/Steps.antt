-- Each doing is its step, by the laws of calls.
use Rattle.std.proofs.Common.{◌≡◌, ℕ, List, refl, ap, sym, ◌∙◌, subst}
use Rattle.std.specs.Prelude.{slice_get, Option, None, Some, Result, Ok, Err}
use Rattle.std.specs.Option.{option_map}
use Rattle.std.proofs.lemmas.Option.{none-some, same_Some}
use Rattle.cascade_core.specs.Course.{Scripted}
use Rattle.share_wire.specs.declared.fault.WireFault.{WireFault}
use Rattle.share_wire.specs.Decoding.{decoded}
use Rattle.share_wire.specs.declared.message.Body.{Body}
use Rattle.share_wire.specs.declared.message.Message.{Message}
use Rattle.share_rules.specs.declared.kept.SeatCount.{SeatCount}
use Rattle.share_law.specs.declared.step.Step.{Step}
use Rattle.share_law.specs.declared.step.Step.TheVariants.{HostAck, HostFloorPacket, HostPacket, ViewerAsk, ViewerResend}
use Rattle.share_law.specs.Calls.{IsPartTakeOf}
use Rattle.share_law.specs.CallSteps.{Sends, packet_of}
use Rattle.share_law.specs.Host.{ack_of}
use Rattle.share_law.specs.Network.{Network, Seat, with_packet}
use Rattle.share_law.specs.Parts.{HostPart, part_floor_packet, part_of, part_packet}
use Rattle.share_law.specs.Viewer.{viewer_ask, viewer_resend}
use Rattle.share_core.specs.Host.{HostView}
use Rattle.share_core.specs.Viewer.{ViewerView, machine_of}
use Rattle.laws_calls.specs.Peers.{AreIn, Peers, machine_for}
use Rattle.laws_calls.proofs.Hosts as hosts
use Rattle.laws_calls.proofs.Hosts.{Law, calls, m}
use Rattle.laws_calls.proofs.Places.{last_there}
use Rattle.laws_calls.proofs.Viewers as viewers
use Rattle.laws_calls.proofs.Viewers.{seat_of}
use Rattle.laws_turns.specs.HostDoings as host
use Rattle.laws_turns.specs.HostDoings.{HostDoing, IsHostDoing, packet_by}
use Rattle.share_turns.specs.HostTurn.{datagram_of}
use Rattle.laws_turns.specs.ViewerDoings as viewer
use Rattle.laws_turns.specs.Steps.{HostBrings, HostDoingsAreSteps, SendsBody, ViewerDoingsAreSteps}

-- the body of a datagram that was made
made-from : (mark : List ℕ) (o : Option Body) (bytes : List ℕ) → option_map (datagram_of mark) o ≡ Some bytes → (body : Body) × (o ≡ Some body) × (bytes ≡ datagram_of mark body)
made-from mark None bytes e = absurd (none-some bytes e)
made-from mark (Some body) bytes e = (body, refl, sym (same_Some (datagram_of mark body) bytes e))

abbrev body-in : Result Message WireFault → Body → Body
body-in (Ok message) other = message.body
body-in (Err fault) other = other

acked : (mark : List ℕ) (who : ℕ) (kept : Option SeatCount) (body : Body) → option_map (ack_of who) kept ≡ Some body → option_map (λ k. packet_of mark (ack_of who k)) kept ≡ Some (packet_of mark body)
acked mark who None body e = absurd (none-some body e)
acked mark who (Some k) body e = ap (λ (b : Body). Some (packet_of mark b)) (same_Some (ack_of who k) body e)

module _ (law : Law) (ps : Peers) (net : Network Scripted) (are : AreIn ps net) where
  -- a step that sends the body
  sends-body : (s : Step) (body : Body) (bytes : List ℕ) → bytes ≡ datagram_of ps.mark body → Sends ps.mark (m law ps net are) net s (Some (packet_of ps.mark body)) → SendsBody ps net s bytes
  sends-body s body bytes is (other, same, step) =
      let bodies : body ≡ other = ap (λ (r : Result Message WireFault). body-in r body) same in
      record {
        leads = record {
          next = with_packet net other;
          is = step;
          are = record {
            opened = are.opened;
            attached = are.attached;
            reached = (calls law ps net are).goes_on s _ (with_packet net other) step;
            host = are.host;
            viewers = are.viewers;
            boots = are.boots;
            lines = are.lines;
          };
        };
        body = other;
        sent = last_there net.sent other;
        is = is ∙ ap (datagram_of ps.mark) bodies;
      }

  part-is : ps.host.part ≡ part_of net.host
  part-is = ap (λ (h : HostView). h.part) are.host

  -- the packets of the host's steps
  host-sends : (s : Step) (body : Body) (bytes : List ℕ) → bytes ≡ datagram_of ps.mark body → packet_by (part_of net.host) s ≡ Some body → SendsBody ps net s bytes
  host-sends (HostPacket n) body bytes is from =
      sends-body (HostPacket n) body bytes is (subst (λ (o : Option Body). Sends ps.mark (m law ps net are) net (HostPacket n) (option_map (packet_of ps.mark) o)) from
      ((calls law ps net are).packet n (option_map (packet_of ps.mark) (part_packet (part_of net.host) n)) refl))
  host-sends (HostAck who) body bytes is from =
      sends-body (HostAck who) body bytes is ((calls law ps net are).ack who (packet_of ps.mark body) (acked ps.mark who (slice_get (part_of net.host).kept who) body from))
  host-sends HostFloorPacket body bytes is from =
      sends-body HostFloorPacket body bytes is ((calls law ps net are).floor_packet (packet_of ps.mark body) (ap (packet_of ps.mark) (sym (same_Some (part_floor_packet (part_of net.host)) body from))))
  host-sends other body bytes is from = absurd (none-some body from)

  host-mark : ps.host.mark ≡ ps.mark
  host-mark = ap (λ (h : HostView). h.mark) are.host

  host-brings : (doing : HostDoing) (new : HostPart) → IsHostDoing ps.mark ps.host.part doing new → HostBrings ps net doing new
  host-brings (host.Clocks time result) new is = hosts.clock law ps.host (record { mark = ps.mark; part = new }) time result (sym host-mark) is ps net are refl
  host-brings (host.Takes came result) new is =
      hosts.take law ps.host (record { mark = ps.mark; part = new }) (decoded came.bytes) result (sym host-mark)
      (subst (λ (k : List ℕ). IsPartTakeOf k ps.host.part (decoded came.bytes) result new) (sym host-mark) is) ps net are refl
  host-brings (host.Sends step sent) new is =
      let made = made-from ps.mark (packet_by ps.host.part step) sent.bytes is.1 in
      host-sends step made.0 sent.bytes made.2 (ap (λ (p : HostPart). packet_by p step) (sym part-is) ∙ made.1)
  host-brings (host.Drops floor result) new is = hosts.drop_below law ps.host (record { mark = ps.mark; part = new }) floor result (sym host-mark) is ps net are refl
  host-brings host.Waits new is = tt

pub host_doings_are_steps : Law → HostDoingsAreSteps
host_doings_are_steps law ps net are doing new is = host-brings law ps net are doing new is

-- ---- a viewer

-- the packets of a viewer's steps
resend-at : (law : Law) (ps : Peers) (net : Network Scripted) (are : AreIn ps net) (who : ℕ) (x : Seat Scripted) → slice_get net.viewers who ≡ Some x
    → (place : ℕ) (body : Body) (bytes : List ℕ) → bytes ≡ datagram_of ps.mark body → viewer_resend who x.node place ≡ Some body → SendsBody ps net (ViewerResend who place) bytes
resend-at law ps net are who x at place body bytes is from =
    sends-body law ps net are (ViewerResend who place) body bytes is (subst (λ (o : Option Body). Sends ps.mark (m law ps net are) net (ViewerResend who place) (option_map (packet_of ps.mark) o)) from
    ((calls law ps net are).resend who place x (option_map (packet_of ps.mark) (viewer_resend who x.node place)) at refl))

ask-at : (law : Law) (ps : Peers) (net : Network Scripted) (are : AreIn ps net) (who : ℕ) (x : Seat Scripted) → slice_get net.viewers who ≡ Some x
    → (bytes : List ℕ) → bytes ≡ datagram_of ps.mark (viewer_ask (machine_for ps) who x.node) → SendsBody ps net (ViewerAsk who) bytes
ask-at law ps net are who x at bytes is =
    let body = viewer_ask (machine_for ps) who x.node in
    sends-body law ps net are (ViewerAsk who) body bytes is ((calls law ps net are).ask who x (packet_of ps.mark body) at refl)

pub viewer_doings_are_steps : Law → ViewerDoingsAreSteps
viewer_doings_are_steps law ps net old has (viewer.Offers point result) new is = viewers.offer law old new point result is.0 is.1 ps net has
viewer_doings_are_steps law ps net old has (viewer.Takes came result) new is = viewers.take law old new (decoded came.bytes) result is.0 is.1 ps net has
viewer_doings_are_steps law ps net old has (viewer.Gathers came result) new is = viewers.gather law old new (decoded came.bytes) result is.0 is.1 ps net has
viewer_doings_are_steps law ps net old has (viewer.Joins boot result) new is = viewers.join law old new boot result is.0 is.1 is.2 ps net has
viewer_doings_are_steps law ps net old has (viewer.Resends place sent) new is =
    let s = seat_of ps net old has in
    let made = made-from old.mark (viewer_resend old.who old.state place) sent.bytes is.1 in
    subst (λ (v : ViewerView). sent.bytes ≡ datagram_of v.mark made.0 → viewer_resend v.who v.state place ≡ Some made.0 → SendsBody ps net (ViewerResend v.who place) sent.bytes) s.2
    (resend-at law ps net has.are old.who s.0 s.1 place made.0 sent.bytes) made.2 made.1
viewer_doings_are_steps law ps net old has (viewer.Asks sent) new is =
    let s = seat_of ps net old has in
    subst (λ (v : ViewerView). sent.bytes ≡ datagram_of v.mark (viewer_ask (machine_of v) v.who v.state) → SendsBody ps net (ViewerAsk v.who) sent.bytes) s.2
    (ask-at law ps net has.are old.who s.0 s.1 sent.bytes) is.1
viewer_doings_are_steps law ps net old has (viewer.Discards came) new is = tt
viewer_doings_are_steps law ps net old has (viewer.Gives piece sent) new is = tt
viewer_doings_are_steps law ps net old has (viewer.Forgets last) new is = tt
viewer_doings_are_steps law ps net old has viewer.Waits new is = tt
