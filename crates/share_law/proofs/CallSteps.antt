-- Each call is its step, by the lemmas of Calls and Parts.
use Rattle.std.proofs.Common.{◌≡◌, ℕ, ◌+◌, ◌≤◌, true, inl, inr, List, ◌∷◌, [], ◌++◌, length, refl, ap, sym, ◌∙◌, subst}
use Rattle.std.specs.Prelude.{slice_get, Option, None, Some, Result, Ok, Err}
use Rattle.std.specs.Option.{option_map}
use Rattle.std.proofs.lemmas.Bool.{cases_Bool, cond-true, cond-false}
use Rattle.std.proofs.lemmas.Option.{same_Some, none-some}
use Rattle.x3d_values.specs.declared.pointing.Point.{Point}
use Rattle.share_wire.specs.declared.fault.WireFault.{WireFault}
use Rattle.share_wire.specs.declared.message.Body.{Body}
use Rattle.share_wire.specs.declared.message.Message.{Message}
use Rattle.share_law.specs.declared.fault.FloorFault.{FloorFault}
use Rattle.share_law.specs.declared.fault.HostFault.{HostFault}
use Rattle.share_law.specs.declared.fault.JoinFault.{JoinFault}
use Rattle.share_law.specs.declared.fault.OfferFault.{OfferFault}
use Rattle.snapshot_core.specs.declared.fault.SaveFault.{SaveFault}
use Rattle.snapshot_core.specs.declared.fault.SnapFault.{SnapFault}
use Rattle.share_law.specs.declared.reply.HostReply.{HostReply}
use Rattle.share_law.specs.declared.step.Step.{Step}
use Rattle.share_law.specs.declared.step.Step.TheVariants.{HostPacket, HostAck, HostTake, HostDropBelow, HostFloorPacket, ViewerOffer, ViewerResend, ViewerAsk, PiecePacket, ViewerJoin, ViewerForget}
use Rattle.share_law.specs.Calls.{IsGatherOf, IsJoin, IsNoJoin, IsPartTakeOf, IsTakeOf}
use Rattle.share_law.specs.CallSteps.{packet_of, IsPacket, IsShot, LeavesPart, Sends, IsSave, Saves, seat_joined, EachCallIsAStep}
use Rattle.share_law.specs.Host.{HostState, SeatCount, ack_of, floor_packet, host_packet}
use Rattle.share_law.specs.Machine.{Machine}
use Rattle.share_law.specs.Network.{Network, Seat, Answer, Offered, Dropped, HostTook, Joined, Forgot, sends, with_host, with_seat, with_gathering, offered_by, rewound_by, IsStep}
use Rattle.share_law.specs.Parts.{HostPart, part_of, part_drop_below}
use Rattle.share_law.specs.Pieces.{Gathering, all_there, joined, piece_packet, shot_piece, whole_of}
use Rattle.share_law.specs.Reached.{Reached}
use Rattle.share_law.specs.Viewer.{ViewerWorld, Spoiled, Running, ViewerState, Shot, viewer_ask, viewer_resend}
use Rattle.share_law.proofs.Calls.{IsClocked-step, IsGather-step, IsGatherOf-gather, IsJoin-step, IsNoJoin-step, forget-step, piece-step, IsHostTake-step, IsHostTakeOf-take, IsTake-step, IsTakeOf-take, offer-step, resend-step, ask-step, ack-step, save-step, save-refused-step, save-spoiled-step, IsRewind-step}
use Rattle.share_law.proofs.Floors.{floor_stands}
use Rattle.share_law.proofs.Machines.{IsMachine}
use Rattle.share_law.proofs.Parts.{IsPartClocked-host, IsPartTakeOf-host, part_drop-host, part_packet-host}
use Rattle.share_law.proofs.Pieces.{whole-found}
use Rattle.share_law.proofs.Runs.{Run-push}
use Rattle.share_law.proofs.Shots.{is_shot_of-parts, shot_with-at}

-- ---- packets that are made

-- what is sent where a body was made, or none
sends-made : {W : Type 0} (mark : List ℕ) (m : Machine W) (net : Network W) (s : Step) (body : Option Body) (decoded : Option (Result Message WireFault)) → IsStep m net s (sends net body).0 (sends net body).1
    → decoded ≡ option_map (packet_of mark) body → Sends mark m net s decoded
sends-made mark m net s None decoded is made = subst (λ o. Sends mark m net s o) (sym made) is
sends-made mark m net s (Some body) decoded is made = subst (λ o. Sends mark m net s o) (sym made) (body, refl, is)

acks-made : {W : Type 0} (mark : List ℕ) (m : Machine W) (net : Network W) (v : ℕ) (kept : Option SeatCount) (decoded : Result Message WireFault) → slice_get net.host.kept v ≡ kept
    → option_map (λ k. packet_of mark (ack_of v k)) kept ≡ Some decoded → Sends mark m net (HostAck v) (Some decoded)
acks-made mark m net v None decoded at made = absurd (none-some decoded made)
acks-made mark m net v (Some k) decoded at made = sends-made mark m net (HostAck v) (Some (ack_of v k)) (Some decoded) (ack-step m net v k at) (sym made)

-- ---- snapshots

saves-so : {W : Type 0} (m : Machine W) (net : Network W) (v : ℕ) (x : Seat W) (view : ViewerWorld W) (result : Result (Unit {0}) SaveFault) (old new : List ℕ) → slice_get net.viewers v ≡ Some x → x.node.view ≡ view
    → IsSave m x.node.boot view result old new → Saves m net v result old new
saves-so m net v x (Spoiled count) result old new at view call = subst (λ r. Saves m net v r old new) (sym call.0) (save-spoiled-step m net v x count at view)
saves-so m net v x (Running w window) (Ok done) old new at view call = (record { viewer = v; boot = x.node.boot; state = w }, refl, call.0, save-step m net v x w window at view)
saves-so m net v x (Running w window) (Err fault) old new at view call = subst (λ r. Saves m net v r old new) (sym call.1.0) (save-refused-step m net v x w window at view)

-- ---- seats

offered-node : {W : Type 0} (x : Seat W) (point : Point) (r : Result ℕ OfferFault) (y : ViewerState W) → (offered_by x point (r, y)).node ≡ y
offered-node x point (Ok n) y = refl
offered-node x point (Err fault) y = refl

offered-gathering : {W : Type 0} (x : Seat W) (point : Point) (r : Result ℕ OfferFault) (y : ViewerState W) → (offered_by x point (r, y)).gathering ≡ x.gathering
offered-gathering x point (Ok n) y = refl
offered-gathering x point (Err fault) y = refl

rewound-node : {W : Type 0} (x : Seat W) (r : Result ℕ SnapFault) (y : ViewerState W) → (rewound_by x (r, y)).node ≡ y
rewound-node x (Ok n) y = refl
rewound-node x (Err fault) y = refl

rewound-gathering : {W : Type 0} (x : Seat W) (r : Result ℕ SnapFault) (y : ViewerState W) → (rewound_by x (r, y)).gathering ≡ x.gathering
rewound-gathering x (Ok n) y = refl
rewound-gathering x (Err fault) y = refl

joined-node : {W : Type 0} (x : Seat W) (r : Result ℕ JoinFault) (y : ViewerState W) (held : Option Gathering) → (seat_joined x r y held).node ≡ y
joined-node x (Ok n) y held = refl
joined-node x (Err fault) y held = refl

joined-gathering : {W : Type 0} (x : Seat W) (r : Result ℕ JoinFault) (y : ViewerState W) (held : Option Gathering) → (seat_joined x r y held).gathering ≡ held
joined-gathering x (Ok n) y held = refl
joined-gathering x (Err fault) y held = refl

-- ---- a join

all-of : (held : Option Gathering) (g : Gathering) → whole_of held ≡ Some g → (held ≡ Some g) × (all_there g.places ≡ true)
all-of None g e = absurd (none-some g e)
all-of (Some h) g e = elim (cases_Bool (all_there h.places)) [
  | inl all ↦ (let same : h ≡ g = same_Some h g (sym (cond-true (all_there h.places) (Some h) None all) ∙ e) in
      (ap Some same, ap (λ (z : Gathering). all_there z.places) (sym same) ∙ all))
  | inr some ↦ absurd (none-some g (sym (cond-false (all_there h.places) (Some h) None some) ∙ e))
]

join-so : {W : Type 0} (m : Machine W) → IsMachine m → (net : Network W) → Reached m net → (v boot : ℕ) (x : Seat W) (whole : Option Gathering) (result : Result ℕ JoinFault) (new : ViewerState W) (held : Option Gathering)
    → slice_get net.viewers v ≡ Some x → whole_of x.gathering ≡ whole
    → (whole_of x.gathering ≡ None → IsNoJoin x.node x.gathering result new held)
    → ((g : Gathering) → whole_of x.gathering ≡ Some g → (s : ℕ) (shot : Shot W) → IsShot m net s shot (joined g.places) → IsJoin m x.node x.gathering shot boot result new held)
    → IsStep m net (ViewerJoin v boot) (Joined result) (with_seat net v (seat_joined x result new held))
join-so m is net reached v boot x None result new held at whole none some = IsNoJoin-step m net v boot x result new held at whole (none whole)
join-so m is net reached v boot x (Some g) result new held at whole none some =
    let all = all-of x.gathering g whole in
    let found = whole-found m is net reached v x g at all.0 all.1 in
    let there = shot_with-at m net.shots g found.0 found.1 in
    let bytes = sym (is_shot_of-parts m g found.0 there.2).2 in
    IsJoin-step m net v boot x g found.0 result new held at whole found.1 (some g whole there.0 found.0 (there.1, bytes))

-- ---- each call

host-takes : {W : Type 0} (mark : List ℕ) (m : Machine W) → (net : Network W) → 1 ≤ net.host.floor → net.host.floor ≤ length net.host.list + 1 → (p : ℕ) (decoded : Result Message WireFault) (result : Result HostReply HostFault) (new : HostPart)
    → IsPacket mark net p decoded → IsPartTakeOf mark (part_of net.host) decoded result new → LeavesPart m net (HostTake p) (HostTook result) new
host-takes mark m net one low p decoded result new packet call =
    let read : Result Message WireFault = packet_of mark packet.0 in
    let known = subst (λ r. IsPartTakeOf mark (part_of net.host) r result new) packet.2 call in
    let of_host = IsPartTakeOf-host mark (part_of net.host) net.host read result new refl one low known in
    let took = IsHostTakeOf-take mark net.host (record { mark = mark; body = packet.0 }) result of_host.0 refl of_host.2 in
    (of_host.0, of_host.1, IsHostTake-step m net p packet.0 result of_host.0 packet.1 took)

drops : {W : Type 0} (m : Machine W) → (net : Network W) → 1 ≤ net.host.floor → (f : ℕ) (result : Result ℕ FloorFault) (new : HostPart)
    → part_drop_below (part_of net.host) f ≡ (result, new) → LeavesPart m net (HostDropBelow f) (Dropped result) new
drops {W} m net one f result new call =
    let of_host = part_drop-host (part_of net.host) net.host f result new refl one call in
    let made : Result ℕ FloorFault × HostState → Answer × Network W = λ r. (Dropped r.0, with_host net r.1) in
    (of_host.0, of_host.1, inl (ap made of_host.2))

pub each_call_is_a_step : {W : Type 0} (mark : List ℕ) (m : Machine W) → IsMachine m → EachCallIsAStep mark m
each_call_is_a_step {W} mark m is net reached =
    let one = (floor_stands m is net reached).from_one in
    let low = (floor_stands m is net reached).at_most in
    record {
      clock = λ t result new call.
          let of_host = IsPartClocked-host (part_of net.host) net.host t result new refl one low call in
          (of_host.0, of_host.1, IsClocked-step m net t result of_host.0 of_host.2);
      host_take = host-takes mark m net one low;
      drop_below = drops m net one;
      packet = λ n decoded made. sends-made mark m net (HostPacket n) (host_packet net.host n) decoded (inl refl)
          (made ∙ ap (option_map (packet_of mark)) (part_packet-host (part_of net.host) net.host n refl one));
      ack = λ v decoded made. acks-made mark m net v (slice_get net.host.kept v) decoded refl made;
      floor_packet = λ decoded made. sends-made mark m net HostFloorPacket (Some (floor_packet net.host)) (Some decoded) (inl refl) (ap Some made);
      take = λ v p x decoded result new at packet call.
          let known = subst (λ r. IsTakeOf m mark v x.node x.node.view r result new) packet.2 call in
          let took = IsTakeOf-take m mark v x.node x.node.view (record { mark = mark; body = packet.0 }) result new refl refl known in
          (refl, refl, IsTake-step m net v p x packet.0 result new at packet.1 took);
      offer = λ v x point result new at call. (
        offered-node x point result new,
        offered-gathering x point result new,
        subst (λ (r : Result ℕ OfferFault × ViewerState W). IsStep m net (ViewerOffer v point) (Offered r.0) (with_seat net v (offered_by x point r))) call (offer-step m net v x point at),
      );
      resend = λ v i x decoded at made. sends-made mark m net (ViewerResend v i) (viewer_resend v x.node i) decoded (resend-step m net v x i at) made;
      ask = λ v x decoded at made. sends-made mark m net (ViewerAsk v) (Some (viewer_ask m v x.node)) (Some decoded) (ask-step m net v x at) (ap Some made);
      snapshot = λ v x result old new at call. saves-so m net v x x.node.view result old new at refl call;
      rewind = λ v s boot x shot bytes result new at there call.
          (rewound-node x result new, rewound-gathering x result new, IsRewind-step m net v s boot x shot result new at there.0 (call there.1));
      piece_packet = λ s i shot bytes decoded there made. sends-made mark m net (PiecePacket s i) (shot_piece m shot i) decoded (piece-step m net s i shot there.0)
          (made ∙ ap (λ (text : List ℕ). option_map (packet_of mark) (piece_packet shot.boot (m.applied shot.state) text i)) there.1);
      gather = λ v p x decoded result new at packet call.
          let known = subst (λ r. IsGatherOf mark x.gathering r result new) packet.2 call in
          let took = IsGatherOf-gather mark x.gathering (record { mark = mark; body = packet.0 }) result new refl known in
          (refl, refl, IsGather-step m net v p x packet.0 result new at packet.1 took);
      join = λ v boot x result new held at none some.
          (joined-node x result new held, joined-gathering x result new held, join-so m is net reached v boot x (whole_of x.gathering) result new held at refl none some);
      forget = λ v x held at none. (refl, refl, subst (λ (g : Option Gathering). IsStep m net (ViewerForget v) Forgot (with_seat net v (with_gathering x g))) (sym none) (forget-step m net v x at));
      goes_on = λ s answer new step. record {
        boots = reached.boots;
        at_least_one = reached.at_least_one;
        few = reached.few;
        from_one = reached.from_one;
        steps = reached.steps ++ s ∷ [];
        answers = reached.answers ++ answer ∷ [];
        run = Run-push m _ reached.steps reached.answers net s answer new reached.run step;
      };
    }
