-- The viewer in a seat after a call on it.
use Rattle.std.proofs.Common.{◌≡◌, ℕ, ◌<◌, ◌^◌, List, refl, ap, sym, ◌∙◌, subst}
use Rattle.std.specs.Prelude.{slice_get, slice_set, Option, None, Some, Result}
use Rattle.std.specs.Option.{option_map}
use Rattle.x3d_values.specs.declared.pointing.Point.{Point}
use Rattle.cascade_core.specs.Course.{Scripted}
use Rattle.share_wire.specs.Decoding.{decoded}
use Rattle.share_wire.specs.declared.fault.WireFault.{WireFault}
use Rattle.share_wire.specs.declared.message.Message.{Message}
use Rattle.snapshot_core.specs.declared.fault.SnapFault.{SnapFault}
use Rattle.snapshot_core.specs.Loading.{HasSnapshot}
use Rattle.snapshot_core.specs.Shot.{shot}
use Rattle.share_law.specs.declared.fault.GatherFault.{GatherFault}
use Rattle.share_law.specs.declared.fault.JoinFault.{JoinFault}
use Rattle.share_law.specs.declared.fault.OfferFault.{OfferFault}
use Rattle.share_law.specs.declared.fault.TakeFault.{TakeFault}
use Rattle.share_law.specs.declared.reply.Gathered.{Gathered}
use Rattle.share_law.specs.declared.reply.Taken.{Taken}
use Rattle.share_law.specs.declared.step.Step.{Step}
use Rattle.share_law.specs.declared.step.Step.TheVariants.{ViewerOffer, ViewerResend, ViewerAsk, ViewerTake, ViewerRewind, ViewerGather, ViewerJoin, ViewerForget}
use Rattle.share_law.specs.Calls.{IsGatherOf, IsRewind, IsTakeOf}
use Rattle.share_law.specs.CallSteps.{IsPacket, IsShot, LeavesSeat, packet_of}
use Rattle.share_law.specs.Network.{Network, Seat, Answer, Offered, ViewerTook, Rewound, Collected, Joined, Forgot, with_seat}
use Rattle.share_law.specs.Pieces.{Gathering, whole_of}
use Rattle.share_law.specs.Viewer.{ViewerState, Shot, viewer_ask, viewer_offer, viewer_resend}
use Rattle.share_core.specs.Rewinds.{IsJoined, IsLawfulJoin}
use Rattle.share_core.specs.Viewer.{ViewerView, machine_of, with_gathering, with_state}
use Rattle.laws_worlds.proofs.NetworksWorlds.{saved_have}
use Rattle.laws_calls.specs.Peers.{Peers, AreIn, machine_for, viewer_at, with_viewer}
use Rattle.laws_calls.specs.Leads.{Leads, SendsAny}
use Rattle.laws_calls.specs.Moves.{HasViewer, ViewerMoves, ViewerMovesBy, ViewerMovesTo, ViewerSends}
use Rattle.laws_calls.proofs.Hosts.{Law, calls, m, sends}
use Rattle.laws_calls.proofs.Places.{mapped_from, set_both}

-- the viewer's seat
pub seat_of : (ps : Peers) (net : Network Scripted) (viewer : ViewerView) → HasViewer ps net viewer → (x : Seat Scripted) × (slice_get net.viewers viewer.who ≡ Some x) × (viewer_at ps viewer.who x ≡ viewer)
seat_of ps net viewer has = mapped_from (viewer_at ps viewer.who) (slice_get net.viewers viewer.who) viewer (sym has.at ∙ has.are.viewers viewer.who)

module _ (law : Law) (ps : Peers) (net : Network Scripted) (are : AreIn ps net) (who : ℕ) where
  -- ---- the viewer is another

  viewer-leads : (x seat : Seat Scripted) (new : ViewerView) (y : ViewerState Scripted) (held : Option Gathering) (s : Step) (a : Answer) → new ≡ with_gathering (with_state (viewer_at ps who x) y) held
      → LeavesSeat (m law ps net are) net s a who seat y held → Leads net s a (with_viewer ps new)
  viewer-leads x seat new y held s a others (node, gathers, is) =
      let same : new ≡ viewer_at ps who seat =
      others ∙ ap (λ (z : ViewerState Scripted). with_gathering (with_state (viewer_at ps who x) z) held) (sym node)
      ∙ ap (λ (g : Option Gathering). with_gathering (with_state (viewer_at ps who x) seat.node) g) (sym gathers) in
      record {
        next = with_seat net who seat;
        is = is;
        are = record {
          opened = are.opened;
          attached = are.attached;
          reached = (calls law ps net are).goes_on s a (with_seat net who seat) is;
          host = are.host;
          viewers = λ u. subst (λ (v : ViewerView). slice_get (slice_set ps.viewers v.who v) u ≡ option_map (viewer_at ps u) (slice_get (slice_set net.viewers who seat) u)) (sym same)
              (set_both (viewer_at ps) net.viewers ps.viewers who seat u are.viewers);
          boots = are.boots;
          lines = are.lines;
        };
      }

  module _ (x : Seat Scripted) (at : slice_get net.viewers who ≡ Some x) where
    abbrev pub v : ViewerView
    v = viewer_at ps who x

    take-at : (new : ViewerView) (read : Result Message WireFault) (result : Result Taken TakeFault) → new ≡ with_state v new.state → IsTakeOf (machine_of v) v.mark v.who v.state v.state.view read result new.state
        → (p : ℕ) → IsPacket ps.mark net p read → Leads net (ViewerTake who p) (ViewerTook result) (with_viewer ps new)
    take-at new read result others step p packet = viewer-leads x _ new new.state x.gathering (ViewerTake who p) (ViewerTook result) others ((calls law ps net are).take who p x read result new.state at packet step)

    offer-at : (new : ViewerView) (point : Point) (result : Result ℕ OfferFault) → new ≡ with_state v new.state → viewer_offer v.state point ≡ (result, new.state) → Leads net (ViewerOffer who point) (Offered result) (with_viewer ps new)
    offer-at new point result others step = viewer-leads x _ new new.state x.gathering (ViewerOffer who point) (Offered result) others ((calls law ps net are).offer who x point result new.state at step)

    resend-at : (place : ℕ) (bytes : Option (List ℕ)) → option_map decoded bytes ≡ option_map (packet_of v.mark) (viewer_resend v.who v.state place) → SendsAny net (ViewerResend who place) bytes ps
    resend-at place bytes call = sends law ps net are (ViewerResend who place) bytes ((calls law ps net are).resend who place x (option_map decoded bytes) at call)

    ask-at : (bytes : List ℕ) → decoded bytes ≡ packet_of v.mark (viewer_ask (machine_of v) v.who v.state) → SendsAny net (ViewerAsk who) (Some bytes) ps
    ask-at bytes call = sends law ps net are (ViewerAsk who) (Some bytes) ((calls law ps net are).ask who x (decoded bytes) at call)

    gather-at : (new : ViewerView) (read : Result Message WireFault) (result : Result Gathered GatherFault) → new ≡ with_gathering v new.gathering → IsGatherOf v.mark v.gathering read result new.gathering
        → (p : ℕ) → IsPacket ps.mark net p read → Leads net (ViewerGather who p) (Collected result) (with_viewer ps new)
    gather-at new read result others step p packet = viewer-leads x _ new x.node new.gathering (ViewerGather who p) (Collected result) others ((calls law ps net are).gather who p x read result new.gathering at packet step)

    forget-at : (new : ViewerView) → new ≡ with_gathering v None → Leads net (ViewerForget who) Forgot (with_viewer ps new)
    forget-at new others = viewer-leads x _ new x.node None (ViewerForget who) Forgot others ((calls law ps net are).forget who x None at refl)

    -- each snapshot of the run can be loaded
    loads : (s : ℕ) (from : Shot Scripted) → slice_get net.shots s ≡ Some from → HasSnapshot ps.scene from.state
    loads s from taken = saved_have ps.text ps.flat ps.scene ps.routes ps.mark net are.opened are.attached are.reached s from taken (are.lines s from taken)

    rewind-at : (new : ViewerView) (bytes : List ℕ) (boot : ℕ) (result : Result ℕ SnapFault) → new ≡ with_state v new.state
        → ((from : Shot Scripted) → from.boot < 2 ^ 32 → HasSnapshot v.scene from.state → bytes ≡ shot v.mark from.boot v.scene from.state → IsRewind (machine_of v) v.state from boot result new.state)
        → (s : ℕ) (from : Shot Scripted) → IsShot (machine_for ps) net s from bytes → Leads net (ViewerRewind who s boot) (Rewound result) (with_viewer ps new)
    rewind-at new bytes boot result others lawful s from there =
        viewer-leads x _ new new.state x.gathering (ViewerRewind who s boot) (Rewound result) others
        ((calls law ps net are).rewind who s boot x from bytes result new.state at there (lawful from (are.boots s from there.0) (loads s from there.0)))

    join-at : (new : ViewerView) (boot : ℕ) (result : Result ℕ JoinFault) → new ≡ with_gathering (with_state v new.state) new.gathering
        → IsJoined v (whole_of v.gathering) boot result new.state new.gathering → IsLawfulJoin v boot result new.state new.gathering
        → Leads net (ViewerJoin who boot) (Joined result) (with_viewer ps new)
    join-at new boot result others step lawful =
        viewer-leads x _ new new.state new.gathering (ViewerJoin who boot) (Joined result) others
        ((calls law ps net are).join who boot x result new.state new.gathering at
        (λ none. subst (λ (o : Option Gathering). IsJoined v o boot result new.state new.gathering) none step)
        (λ g whole s from there. lawful g whole from (are.boots s from there.0) (loads s from there.0) there.1))

-- ---- each call

pub take : Law → (old new : ViewerView) (read : Result Message WireFault) (result : Result Taken TakeFault) → new ≡ with_state old new.state → IsTakeOf (machine_of old) old.mark old.who old.state old.state.view read result new.state
    → ViewerMovesBy old new read (λ p. ViewerTake old.who p) (ViewerTook result)
take law old new read result others step ps net has p packet =
    let s = seat_of ps net old has in
    subst (λ (v : ViewerView). new ≡ with_state v new.state → IsTakeOf (machine_of v) v.mark v.who v.state v.state.view read result new.state → Leads net (ViewerTake v.who p) (ViewerTook result) (with_viewer ps new)) s.2
    (λ same call. take-at law ps net has.are old.who s.0 s.1 new read result same call p packet) others step

pub offer : Law → (old new : ViewerView) (point : Point) (result : Result ℕ OfferFault) → new ≡ with_state old new.state → viewer_offer old.state point ≡ (result, new.state)
    → ViewerMoves old new (ViewerOffer old.who point) (Offered result)
offer law old new point result others step ps net has =
    let s = seat_of ps net old has in
    subst (λ (v : ViewerView). new ≡ with_state v new.state → viewer_offer v.state point ≡ (result, new.state) → Leads net (ViewerOffer v.who point) (Offered result) (with_viewer ps new)) s.2
    (λ same call. offer-at law ps net has.are old.who s.0 s.1 new point result same call) others step

pub resend : Law → (viewer : ViewerView) (place : ℕ) (bytes : Option (List ℕ)) → option_map decoded bytes ≡ option_map (packet_of viewer.mark) (viewer_resend viewer.who viewer.state place)
    → ViewerSends viewer (ViewerResend viewer.who place) bytes
resend law viewer place bytes call ps net has =
    let s = seat_of ps net viewer has in
    subst (λ (v : ViewerView). option_map decoded bytes ≡ option_map (packet_of v.mark) (viewer_resend v.who v.state place) → SendsAny net (ViewerResend v.who place) bytes ps) s.2
    (resend-at law ps net has.are viewer.who s.0 s.1 place bytes) call

pub ask : Law → (viewer : ViewerView) (bytes : List ℕ) → decoded bytes ≡ packet_of viewer.mark (viewer_ask (machine_of viewer) viewer.who viewer.state)
    → ViewerSends viewer (ViewerAsk viewer.who) (Some bytes)
ask law viewer bytes call ps net has =
    let s = seat_of ps net viewer has in
    subst (λ (v : ViewerView). decoded bytes ≡ packet_of v.mark (viewer_ask (machine_of v) v.who v.state) → SendsAny net (ViewerAsk v.who) (Some bytes) ps) s.2
    (ask-at law ps net has.are viewer.who s.0 s.1 bytes) call

pub rewind : Law → (old new : ViewerView) (bytes : List ℕ) (boot : ℕ) (result : Result ℕ SnapFault) → new ≡ with_state old new.state
    → ((from : Shot Scripted) → from.boot < 2 ^ 32 → HasSnapshot old.scene from.state → bytes ≡ shot old.mark from.boot old.scene from.state → IsRewind (machine_of old) old.state from boot result new.state)
    → ViewerMovesTo old new bytes (λ s. ViewerRewind old.who s boot) (Rewound result)
rewind law old new bytes boot result others lawful ps net has n from there =
    let s = seat_of ps net old has in
    subst (λ (v : ViewerView). new ≡ with_state v new.state
    → ((taken : Shot Scripted) → taken.boot < 2 ^ 32 → HasSnapshot v.scene taken.state → bytes ≡ shot v.mark taken.boot v.scene taken.state → IsRewind (machine_of v) v.state taken boot result new.state)
    → Leads net (ViewerRewind v.who n boot) (Rewound result) (with_viewer ps new)) s.2
    (λ same call. rewind-at law ps net has.are old.who s.0 s.1 new bytes boot result same call n from there) others lawful

pub gather : Law → (old new : ViewerView) (read : Result Message WireFault) (result : Result Gathered GatherFault) → new ≡ with_gathering old new.gathering → IsGatherOf old.mark old.gathering read result new.gathering
    → ViewerMovesBy old new read (λ p. ViewerGather old.who p) (Collected result)
gather law old new read result others step ps net has p packet =
    let s = seat_of ps net old has in
    subst (λ (v : ViewerView). new ≡ with_gathering v new.gathering → IsGatherOf v.mark v.gathering read result new.gathering → Leads net (ViewerGather v.who p) (Collected result) (with_viewer ps new)) s.2
    (λ same call. gather-at law ps net has.are old.who s.0 s.1 new read result same call p packet) others step

pub join : Law → (old new : ViewerView) (boot : ℕ) (result : Result ℕ JoinFault) → new ≡ with_gathering (with_state old new.state) new.gathering
    → IsJoined old (whole_of old.gathering) boot result new.state new.gathering → IsLawfulJoin old boot result new.state new.gathering
    → ViewerMoves old new (ViewerJoin old.who boot) (Joined result)
join law old new boot result others step lawful ps net has =
    let s = seat_of ps net old has in
    subst (λ (v : ViewerView). new ≡ with_gathering (with_state v new.state) new.gathering
    → IsJoined v (whole_of v.gathering) boot result new.state new.gathering → IsLawfulJoin v boot result new.state new.gathering
    → Leads net (ViewerJoin v.who boot) (Joined result) (with_viewer ps new)) s.2
    (λ same call can. join-at law ps net has.are old.who s.0 s.1 new boot result same call can) others step lawful

pub forget : Law → (old new : ViewerView) → new ≡ with_gathering old None → ViewerMoves old new (ViewerForget old.who) Forgot
forget law old new others ps net has =
    let s = seat_of ps net old has in
    subst (λ (v : ViewerView). new ≡ with_gathering v None → Leads net (ViewerForget v.who) Forgot (with_viewer ps new)) s.2
    (λ same. forget-at law ps net has.are old.who s.0 s.1 new same) others
