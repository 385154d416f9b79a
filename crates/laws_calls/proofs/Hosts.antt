-- The host of a network after a call on it, and packets that any peer sends.
use Rattle.std.proofs.Common.{◌≡◌, ℕ, ℤ, List, ap, sym, ◌∙◌, subst}
use Rattle.std.specs.Prelude.{slice_get, Option, None, Some, Result}
use Rattle.std.specs.Option.{option_map}
use Rattle.scene_core.specs.declared.scene.Route.{Route}
use Rattle.scene_core.specs.Scene.{SceneView}
use Rattle.cascade_core.specs.Course.{Scripted}
use Rattle.share_wire.specs.Decoding.{decoded}
use Rattle.share_wire.specs.declared.fault.WireFault.{WireFault}
use Rattle.share_wire.specs.declared.message.Message.{Message}
use Rattle.share_law.specs.declared.fault.FloorFault.{FloorFault}
use Rattle.share_law.specs.declared.fault.HostFault.{HostFault}
use Rattle.share_law.specs.declared.fault.NumberFault.{NumberFault}
use Rattle.share_law.specs.declared.reply.HostReply.{HostReply}
use Rattle.share_law.specs.declared.step.Step.{Step}
use Rattle.share_law.specs.declared.step.Step.TheVariants.{HostClock, HostPacket, HostAck, HostTake, HostDropBelow, HostFloorPacket}
use Rattle.share_law.specs.Calls.{IsPartClocked, IsPartTakeOf}
use Rattle.share_law.specs.CallSteps.{CallsAreSteps, EachCallIsAStep, LeavesPart, Sends, packet_of}
use Rattle.share_law.specs.Cascade.{cascade}
use Rattle.share_law.specs.Host.{ack_of}
use Rattle.share_law.specs.Machine.{Machine}
use Rattle.share_law.specs.Network.{Network, Answer, Clocked, HostTook, Dropped, with_host as net_with_host, with_packet}
use Rattle.share_law.specs.Parts.{HostPart, part_of, part_drop_below, part_floor_packet, part_packet}
use Rattle.share_core.specs.Host.{HostView}
use Rattle.laws_calls.specs.Peers.{Peers, AreIn, machine_for, with_host}
use Rattle.laws_calls.specs.Leads.{Leads, SendsAny}
use Rattle.laws_calls.specs.Moves.{HostMoves, HostMovesBy, HostSends}
use Rattle.laws_calls.proofs.Places.{last_there}

-- the clause `calls` of steps_law
abbrev pub Law : Type 0
Law = (mark : List ℕ) (scene : SceneView) (routes : List Route) → EachCallIsAStep mark (cascade mark scene routes)

module _ (law : Law) (ps : Peers) (net : Network Scripted) (are : AreIn ps net) where
  abbrev pub m : Machine Scripted
  m = machine_for ps

  pub calls : CallsAreSteps ps.mark m net
  calls = law ps.mark ps.scene ps.routes net are.reached

  -- ---- the host is another

  host-leads : (new : HostView) → new.mark ≡ ps.mark → (s : Step) (a : Answer) → LeavesPart m net s a new.part → Leads net s a (with_host ps new)
  host-leads new own s a (host, part, is) = record {
    next = net_with_host net host;
    is = is;
    are = record {
      opened = are.opened;
      attached = are.attached;
      reached = calls.goes_on s a (net_with_host net host) is;
      host = ap (λ (k : List ℕ). let v : HostView = record { mark = k; part = new.part } in v) own ∙ ap (λ (p : HostPart). let v : HostView = record { mark = ps.mark; part = p } in v) (sym part);
      viewers = are.viewers;
      boots = are.boots;
      lines = are.lines;
    };
  }

  own-part : (old : HostView) → ps.host ≡ old → old.part ≡ part_of net.host
  own-part old e = ap (λ (h : HostView). h.part) (sym e ∙ are.host)

  own-mark : (old : HostView) → ps.host ≡ old → old.mark ≡ ps.mark
  own-mark old e = ap (λ (h : HostView). h.mark) (sym e ∙ are.host)

  -- ---- a packet is sent

  pub sends : (s : Step) (bytes : Option (List ℕ)) → Sends ps.mark m net s (option_map decoded bytes) → SendsAny net s bytes ps
  sends s None is = record { next = net; is = is; are = are }
  sends s (Some bytes) (body, read, is) = record {
    leads = record {
      next = with_packet net body;
      is = is;
      are = record {
        opened = are.opened;
        attached = are.attached;
        reached = calls.goes_on s _ (with_packet net body) is;
        host = are.host;
        viewers = are.viewers;
        boots = are.boots;
        lines = are.lines;
      };
    };
    packet = (body, last_there net.sent body, read);
  }

-- ---- each call

pub clock : Law → (old new : HostView) (t : ℤ) (result : Result ℕ NumberFault) → new.mark ≡ old.mark → IsPartClocked old.part t result new.part → HostMoves old new (HostClock t) (Clocked result)
clock law old new t result same call ps net are e =
    host-leads law ps net are new (same ∙ own-mark law ps net are old e) (HostClock t) (Clocked result)
    ((calls law ps net are).clock t result new.part (subst (λ (p : HostPart). IsPartClocked p t result new.part) (own-part law ps net are old e) call))

pub drop_below : Law → (old new : HostView) (f : ℕ) (result : Result ℕ FloorFault) → new.mark ≡ old.mark → part_drop_below old.part f ≡ (result, new.part) → HostMoves old new (HostDropBelow f) (Dropped result)
drop_below law old new f result same call ps net are e =
    host-leads law ps net are new (same ∙ own-mark law ps net are old e) (HostDropBelow f) (Dropped result)
    ((calls law ps net are).drop_below f result new.part (subst (λ (p : HostPart). part_drop_below p f ≡ (result, new.part)) (own-part law ps net are old e) call))

pub take : Law → (old new : HostView) (read : Result Message WireFault) (result : Result HostReply HostFault) → new.mark ≡ old.mark → IsPartTakeOf old.mark old.part read result new.part → HostMovesBy old new read (λ p. HostTake p) (HostTook result)
take law old new read result same call ps net are e p packet =
    let of_net = subst (λ (k : List ℕ). IsPartTakeOf k (part_of net.host) read result new.part) (own-mark law ps net are old e) (subst (λ (q : HostPart). IsPartTakeOf old.mark q read result new.part) (own-part law ps net are old e) call) in
    host-leads law ps net are new (same ∙ own-mark law ps net are old e) (HostTake p) (HostTook result) ((calls law ps net are).host_take p read result new.part packet of_net)

-- the packets that a host sends, by what they decode to
pub packet : Law → (host : HostView) (n : ℕ) (bytes : Option (List ℕ)) → option_map decoded bytes ≡ option_map (packet_of host.mark) (part_packet host.part n) → HostSends host (HostPacket n) bytes
packet law host n bytes call ps net are e =
    let of_part = subst (λ (p : HostPart). option_map decoded bytes ≡ option_map (packet_of host.mark) (part_packet p n)) (own-part law ps net are host e) call in
    let of_mark = subst (λ (k : List ℕ). option_map decoded bytes ≡ option_map (packet_of k) (part_packet (part_of net.host) n)) (own-mark law ps net are host e) of_part in
    sends law ps net are (HostPacket n) bytes ((calls law ps net are).packet n (option_map decoded bytes) of_mark)

pub ack : Law → (host : HostView) (who : ℕ) (bytes : List ℕ) → option_map (λ kept. packet_of host.mark (ack_of who kept)) (slice_get host.part.kept who) ≡ Some (decoded bytes) → HostSends host (HostAck who) (Some bytes)
ack law host who bytes call ps net are e =
    let of_part = subst (λ (p : HostPart). option_map (λ kept. packet_of host.mark (ack_of who kept)) (slice_get p.kept who) ≡ Some (decoded bytes)) (own-part law ps net are host e) call in
    let of_mark = subst (λ (k : List ℕ). option_map (λ kept. packet_of k (ack_of who kept)) (slice_get (part_of net.host).kept who) ≡ Some (decoded bytes)) (own-mark law ps net are host e) of_part in
    sends law ps net are (HostAck who) (Some bytes) ((calls law ps net are).ack who (decoded bytes) of_mark)

pub floor_packet : Law → (host : HostView) (bytes : List ℕ) → decoded bytes ≡ packet_of host.mark (part_floor_packet host.part) → HostSends host HostFloorPacket (Some bytes)
floor_packet law host bytes call ps net are e =
    let of_part = subst (λ (p : HostPart). decoded bytes ≡ packet_of host.mark (part_floor_packet p)) (own-part law ps net are host e) call in
    let of_mark = subst (λ (k : List ℕ). decoded bytes ≡ packet_of k (part_floor_packet (part_of net.host))) (own-mark law ps net are host e) of_part in
    sends law ps net are HostFloorPacket (Some bytes) ((calls law ps net are).floor_packet (decoded bytes) of_mark)
