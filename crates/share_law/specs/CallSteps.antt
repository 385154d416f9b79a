-- Each call on a real node is its step of the network. What the call's contract ensures, with what
-- is known before the call, yields an answer and a network that the step allows.
use Rattle.std.specs.Prelude.{◌≡◌, ℕ, ◌++◌, ℤ, List, length, slice_get}
use Rattle.std.specs.Prelude.{Option, None, Some, Result, Ok, Err, OnOk, OnErr}
use Rattle.std.specs.Option.{option_map}
use Rattle.x3d_values.specs.declared.pointing.Point.{Point}
use Rattle.share_wire.specs.declared.fault.WireFault.{WireFault}
use Rattle.share_wire.specs.declared.message.Body.{Body}
use Rattle.share_wire.specs.declared.message.Message.{Message}
use Rattle.share_law.specs.declared.fault.FloorFault.{FloorFault}
use Rattle.share_law.specs.declared.fault.GatherFault.{GatherFault}
use Rattle.share_law.specs.declared.fault.HostFault.{HostFault}
use Rattle.share_law.specs.declared.fault.JoinFault.{JoinFault}
use Rattle.share_law.specs.declared.fault.NumberFault.{NumberFault}
use Rattle.share_law.specs.declared.fault.OfferFault.{OfferFault}
use Rattle.share_law.specs.declared.fault.TakeFault.{TakeFault}
use Rattle.snapshot_core.specs.declared.fault.SaveFault.{SaveFault}
use Rattle.snapshot_core.specs.declared.fault.SaveFault.TheVariants as save_fault
use Rattle.snapshot_core.specs.declared.fault.SnapFault.{SnapFault}
use Rattle.share_law.specs.declared.reply.HostReply.{HostReply}
use Rattle.share_law.specs.declared.reply.Gathered.{Gathered}
use Rattle.share_law.specs.declared.reply.Taken.{Taken}
use Rattle.share_law.specs.declared.step.Step.{Step}
use Rattle.share_law.specs.declared.step.Step.TheVariants.{HostClock, HostPacket, HostAck, HostTake}
use Rattle.share_law.specs.declared.step.Step.TheVariants.{HostDropBelow, HostFloorPacket}
use Rattle.share_law.specs.declared.step.Step.TheVariants.{ViewerOffer, ViewerResend, ViewerAsk}
use Rattle.share_law.specs.declared.step.Step.TheVariants.{ViewerTake, ViewerSave, ViewerRewind}
use Rattle.share_law.specs.declared.step.Step.TheVariants.{PiecePacket, ViewerGather}
use Rattle.share_law.specs.declared.step.Step.TheVariants.{ViewerJoin, ViewerForget}
use Rattle.share_law.specs.Calls.{IsGatherOf, IsJoin, IsNoJoin, IsPartClocked, IsPartTakeOf}
use Rattle.share_law.specs.Calls.{IsRewind, IsTakeOf}
use Rattle.share_law.specs.Host.{HostState, ack_of}
use Rattle.share_law.specs.Machine.{Machine}
use Rattle.share_law.specs.Network.{Network, Seat, Answer, Clocked, HostTook, ViewerTook, Offered}
use Rattle.share_law.specs.Network.{Sent, Saved, Rewound, Dropped, Collected, Joined, Forgot}
use Rattle.share_law.specs.Network.{with_host, with_seat, with_node, with_gathering, with_packet}
use Rattle.share_law.specs.Network.{with_shot, in_new_boot, offered_by, rewound_by, IsStep}
use Rattle.share_law.specs.Parts.{HostPart, part_of, part_drop_below, part_floor_packet}
use Rattle.share_law.specs.Parts.{part_packet}
use Rattle.share_law.specs.Pieces.{Gathering, joined, piece_packet, shot_text, whole_of}
use Rattle.share_law.specs.Reached.{Reached}
use Rattle.share_law.specs.Viewer.{ViewerWorld, Spoiled, Running, ViewerState, Shot, viewer_ask}
use Rattle.share_law.specs.Viewer.{viewer_offer, viewer_resend}

-- ---- before a call

-- what a packet with this body and the mark of the scene decodes to
abbrev pub packet_of : (mark : List ℕ) → Body → Result Message WireFault
packet_of mark body = Ok (record { mark = mark; body = body })

-- `decoded` is what packet p of the network decodes to
abbrev pub IsPacket : {W : Type 0} → (mark : List ℕ) → Network W → (p : ℕ)
    → (decoded : Result Message WireFault) → Type 0
IsPacket mark net p decoded =
    (body : Body) × (slice_get net.sent p ≡ Some body) × (decoded ≡ packet_of mark body)

-- snapshot s of the network is `shot`, and `bytes` are its bytes
abbrev pub IsShot : {W : Type 0} → Machine W → Network W → (s : ℕ) → Shot W → (bytes : List ℕ)
    → Type 0
IsShot m net s shot bytes = (slice_get net.shots s ≡ Some shot) × (bytes ≡ shot_text m shot)

-- ---- after a call

-- the step may give this answer and leave a host with this part
abbrev pub LeavesPart : {W : Type 0} → Machine W → Network W → Step → Answer → HostPart → Type 0
LeavesPart m net step answer part =
    (host : HostState) × (part_of host ≡ part) × IsStep m net step answer (with_host net host)

-- the step may give this answer and leave this seat for viewer v, with this viewer and this
-- gathering
abbrev pub LeavesSeat : {W : Type 0} → Machine W → Network W → Step → Answer → (v : ℕ) → Seat W
    → ViewerState W → Option Gathering → Type 0
LeavesSeat m net step answer v seat viewer gathering =
    (seat.node ≡ viewer) × (seat.gathering ≡ gathering)
    × IsStep m net step answer (with_seat net v seat)

-- the step sends the body that the bytes decode to, or nothing if no bytes were made
abbrev pub Sends : {W : Type 0} → (mark : List ℕ) → Machine W → Network W → Step
    → (decoded : Option (Result Message WireFault)) → Type 0
Sends mark m net step None = IsStep m net step (Sent None) net
Sends mark m net step (Some decoded) =
    (body : Body) × (decoded ≡ packet_of mark body)
    × IsStep m net step (Sent (Some (length net.sent))) (with_packet net body)

-- a viewer in this world appends its snapshot to the bytes, or fails and leaves them unchanged
abbrev pub IsSave : {W : Type 0} → Machine W → (boot : ℕ) → ViewerWorld W
    → Result (Unit {0}) SaveFault → (old new : List ℕ) → Type 0
IsSave m boot (Spoiled count) result old new = (result ≡ Err save_fault.Spoiled) × (new ≡ old)
IsSave m boot (Running w window) result old new =
    OnOk result (new ≡ old ++ m.text boot w)
    × OnErr result ((result ≡ Err save_fault.Memory) × (new ≡ old))

-- the step takes a snapshot that has the appended bytes, or is refused as the call was
abbrev pub Saves : {W : Type 0} → Machine W → Network W → (v : ℕ)
    → Result (Unit {0}) SaveFault → (old new : List ℕ) → Type 0
Saves {W} m net v (Ok done) old new =
    (shot : Shot W) × (shot.viewer ≡ v) × (new ≡ old ++ shot_text m shot)
    × IsStep m net (ViewerSave v) (Saved (Ok (length net.shots))) (with_shot net shot)
Saves m net v (Err fault) old new = IsStep m net (ViewerSave v) (Saved (Err fault)) net

-- the seat of a viewer after a join
abbrev pub seat_joined : {W : Type 0} → Seat W → Result ℕ JoinFault → ViewerState W
    → Option Gathering → Seat W
seat_joined x (Ok n) y held = with_gathering (in_new_boot x y) held
seat_joined x (Err fault) y held = with_gathering (with_node x y) held

-- ---- calls are steps

-- In a network that was reached, each call is its step. The real host has the part of the network's
-- host, the real viewer has the viewer and the gathering of seat v, and `decoded` is what the real
-- bytes decode to.
pub record CallsAreSteps {W : Type 0} (mark : List ℕ) (m : Machine W) (net : Network W)
    : Type 0 where
  -- Host::clock
  pub clock : (t : ℤ) (result : Result ℕ NumberFault) (new : HostPart)
      → IsPartClocked (part_of net.host) t result new
      → LeavesPart m net (HostClock t) (Clocked result) new
  -- Host::take and Host::take_message, for a packet of the run
  pub host_take : (p : ℕ) (decoded : Result Message WireFault) (result : Result HostReply HostFault)
      (new : HostPart)
      → IsPacket mark net p decoded
      → IsPartTakeOf mark (part_of net.host) decoded result new
      → LeavesPart m net (HostTake p) (HostTook result) new
  -- Host::drop_below
  pub drop_below : (f : ℕ) (result : Result ℕ FloorFault) (new : HostPart)
      → part_drop_below (part_of net.host) f ≡ (result, new)
      → LeavesPart m net (HostDropBelow f) (Dropped result) new
  -- Host::packet
  pub packet : (n : ℕ) (decoded : Option (Result Message WireFault))
      → decoded ≡ option_map (packet_of mark) (part_packet (part_of net.host) n)
      → Sends mark m net (HostPacket n) decoded
  -- Host::ack
  pub ack : (v : ℕ) (decoded : Result Message WireFault)
      → option_map (λ kept. packet_of mark (ack_of v kept)) (slice_get (part_of net.host).kept v)
      ≡ Some decoded
      → Sends mark m net (HostAck v) (Some decoded)
  -- Host::floor_packet
  pub floor_packet : (decoded : Result Message WireFault)
      → decoded ≡ packet_of mark (part_floor_packet (part_of net.host))
      → Sends mark m net HostFloorPacket (Some decoded)
  -- Viewer::take, for a packet of the run
  pub take : (v p : ℕ) (x : Seat W) (decoded : Result Message WireFault)
      (result : Result Taken TakeFault) (new : ViewerState W)
      → slice_get net.viewers v ≡ Some x → IsPacket mark net p decoded
      → IsTakeOf m mark v x.node x.node.view decoded result new
      → LeavesSeat m net (ViewerTake v p) (ViewerTook result) v (with_node x new) new x.gathering
  -- Viewer::offer
  pub offer : (v : ℕ) (x : Seat W) (point : Point) (result : Result ℕ OfferFault)
      (new : ViewerState W)
      → slice_get net.viewers v ≡ Some x
      → viewer_offer x.node point ≡ (result, new)
      → LeavesSeat m net (ViewerOffer v point) (Offered result) v (offered_by x point (result, new))
      new x.gathering
  -- Viewer::resend
  pub resend : (v i : ℕ) (x : Seat W) (decoded : Option (Result Message WireFault))
      → slice_get net.viewers v ≡ Some x
      → decoded ≡ option_map (packet_of mark) (viewer_resend v x.node i)
      → Sends mark m net (ViewerResend v i) decoded
  -- Viewer::ask
  pub ask : (v : ℕ) (x : Seat W) (decoded : Result Message WireFault)
      → slice_get net.viewers v ≡ Some x
      → decoded ≡ packet_of mark (viewer_ask m v x.node)
      → Sends mark m net (ViewerAsk v) (Some decoded)
  -- Viewer::snapshot
  pub snapshot : (v : ℕ) (x : Seat W) (result : Result (Unit {0}) SaveFault) (old new : List ℕ)
      → slice_get net.viewers v ≡ Some x
      → IsSave m x.node.boot x.node.view result old new
      → Saves m net v result old new
  -- Viewer::rewind, to the bytes of a snapshot of the run
  pub rewind : (v s boot : ℕ) (x : Seat W) (shot : Shot W) (bytes : List ℕ)
      (result : Result ℕ SnapFault) (new : ViewerState W)
      → slice_get net.viewers v ≡ Some x → IsShot m net s shot bytes
      → (bytes ≡ shot_text m shot → IsRewind m x.node shot boot result new)
      → LeavesSeat m net (ViewerRewind v s boot) (Rewound result) v (rewound_by x (result, new)) new
      x.gathering
  -- piece_packet, for the bytes of a snapshot of the run and the boot and input count in its head
  pub piece_packet : (s i : ℕ) (shot : Shot W) (bytes : List ℕ)
      (decoded : Option (Result Message WireFault))
      → IsShot m net s shot bytes
      → decoded
      ≡ option_map (packet_of mark) (piece_packet shot.boot (m.applied shot.state) bytes i)
      → Sends mark m net (PiecePacket s i) decoded
  -- Viewer::gather, for a packet of the run
  pub gather : (v p : ℕ) (x : Seat W) (decoded : Result Message WireFault)
      (result : Result Gathered GatherFault) (new : Option Gathering)
      → slice_get net.viewers v ≡ Some x → IsPacket mark net p decoded
      → IsGatherOf mark x.gathering decoded result new
      → LeavesSeat m net (ViewerGather v p) (Collected result) v (with_gathering x new) x.node new
  -- Viewer::join: a complete gathering is a snapshot of the run, so the join is a rewind to it
  pub join : (v boot : ℕ) (x : Seat W) (result : Result ℕ JoinFault) (new : ViewerState W)
      (held : Option Gathering)
      → slice_get net.viewers v ≡ Some x
      → (whole_of x.gathering ≡ None → IsNoJoin x.node x.gathering result new held)
      → ((g : Gathering) → whole_of x.gathering ≡ Some g
      → (s : ℕ) (shot : Shot W) → IsShot m net s shot (joined g.places)
      → IsJoin m x.node x.gathering shot boot result new held)
      → LeavesSeat m net (ViewerJoin v boot) (Joined result) v (seat_joined x result new held) new
      held
  -- Viewer::forget
  pub forget : (v : ℕ) (x : Seat W) (held : Option Gathering)
      → slice_get net.viewers v ≡ Some x
      → held ≡ None
      → LeavesSeat m net (ViewerForget v) Forgot v (with_gathering x held) x.node held
  -- every network that a step leads to was reached too
  pub goes_on : (step : Step) (answer : Answer) (new : Network W)
      → IsStep m net step answer new → Reached m new

-- in every network that was reached, each call is its step
abbrev pub EachCallIsAStep : {W : Type 0} → (mark : List ℕ) → Machine W → Type 0
EachCallIsAStep {W} mark m = (net : Network W) → Reached m net → CallsAreSteps mark m net
