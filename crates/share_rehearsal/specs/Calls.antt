-- How the calls of a rehearsal change its nodes, step by step.
use Rattle.std.specs.Prelude.{◌≡◌, ◌⊎◌, ◌<◌, ◌^◌, ℕ, suc, ◌++◌, List, [], ◌∷◌, length}
use Rattle.std.specs.Prelude.{slice_get, slice_set, Option, Some, None, Result, Ok, Err}
use Rattle.share_wire.specs.Datagram.{datagram}
use Rattle.share_wire.specs.Decoding.{decoded}
use Rattle.share_wire.specs.declared.message.Body.{Body}
use Rattle.share_wire.specs.declared.message.Message.{Message}
use Rattle.cascade_core.specs.Course.{Scripted}
use Rattle.cascade_core.specs.Apply.{opening}
use Rattle.cascade_core.specs.Held.{StageView}
use Rattle.snapshot_core.specs.declared.fault.SaveFault.TheVariants as save_fault
use Rattle.snapshot_core.specs.declared.fault.SnapFault.{SnapFault}
use Rattle.snapshot_core.specs.Shot.{shot}
use Rattle.snapshot_core.specs.Loading.{HasSnapshot}
use Rattle.share_law.specs.declared.fault.FloorFault.{FloorFault}
use Rattle.share_law.specs.declared.fault.GatherFault.{GatherFault}
use Rattle.share_law.specs.declared.fault.JoinFault.{JoinFault}
use Rattle.share_law.specs.declared.fault.NumberFault.{NumberFault}
use Rattle.share_law.specs.declared.fault.HostFault.{HostFault}
use Rattle.share_law.specs.declared.fault.TakeFault.{TakeFault}
use Rattle.share_rules.specs.declared.kept.SeatCount.{SeatCount}
use Rattle.share_law.specs.declared.reply.Gathered.{Gathered}
use Rattle.share_law.specs.declared.reply.HostReply.{HostReply}
use Rattle.share_law.specs.declared.reply.Taken.{Taken}
use Rattle.share_law.specs.declared.step.Step.{Step}
use Rattle.share_law.specs.declared.step.Step.TheVariants.{HostClock, HostPacket, HostAck, HostTake}
use Rattle.share_law.specs.declared.step.Step.TheVariants.{ViewerOffer, ViewerResend, ViewerAsk}
use Rattle.share_law.specs.declared.step.Step.TheVariants.{ViewerTake, ViewerSave, ViewerRewind}
use Rattle.share_law.specs.declared.step.Step.TheVariants.{HostDropBelow, HostFloorPacket}
use Rattle.share_law.specs.declared.step.Step.TheVariants.{PiecePacket, ViewerGather, ViewerJoin}
use Rattle.share_law.specs.declared.step.Step.TheVariants.{ViewerForget}
use Rattle.share_law.specs.Calls.{IsPartClocked, IsPartTakeOf, IsTakeOf, IsRewind, IsGatherOf}
use Rattle.share_law.specs.Host.{ack_of}
use Rattle.share_law.specs.Parts.{HostPart, new_part, part_drop_below, part_floor_packet}
use Rattle.share_law.specs.Parts.{part_packet}
use Rattle.share_law.specs.Pieces.{Gathering, whole_of}
use Rattle.share_law.specs.Viewer as law
use Rattle.share_law.specs.Viewer.{ViewerWorld, Spoiled, Running, viewer_offer, viewer_resend, viewer_ask}
use Rattle.share_core.specs.Host.{HostView}
use Rattle.share_core.specs.Pieces.{piece_of}
use Rattle.share_core.specs.Viewer.{ViewerView, machine_of, with_gathering, with_state}
use Rattle.share_core.specs.Rewinds.{IsJoined, IsLawfulJoin, IsRewound}
use Rattle.share_rehearsal.specs.declared.answer.Answer.{Answer}
use Rattle.share_rehearsal.specs.declared.answer.Answer.TheVariants.{Clocked, HostTook, ViewerTook}
use Rattle.share_rehearsal.specs.declared.answer.Answer.TheVariants.{Offered, Sent, Saved, Rewound}
use Rattle.share_rehearsal.specs.declared.answer.Answer.TheVariants.{Dropped, Collected, Joined}
use Rattle.share_rehearsal.specs.declared.answer.Answer.TheVariants.{Forgot, NoSuch}
use Rattle.share_rehearsal.specs.declared.nodes.Nodes.{Nodes}
use Rattle.share_rehearsal.specs.declared.nodes.Shot.{Shot}

-- the host, the viewers, the bytes of every packet, and every snapshot
pub record Seen : Type 0 where
  pub host : HostView
  pub viewers : List ViewerView
  pub packets : List (List ℕ)
  pub shots : List Shot

abbrev pub with_host : Seen → HostPart → Seen
with_host s p = record s { host = record { mark = s.host.mark; part = p } }

abbrev pub with_viewer : Seen → (v : ℕ) → ViewerView → Seen
with_viewer s v x = record s { viewers = slice_set s.viewers v x }

abbrev pub with_packets : Seen → List (List ℕ) → Seen
with_packets s packets = record s { packets = packets }

abbrev pub with_shots : Seen → List Shot → Seen
with_shots s shots = record s { shots = shots }

abbrev pub seen_of : HostView → List ViewerView → List (List ℕ) → List Shot → Seen
seen_of host viewers packets shots =
    record { host = host; viewers = viewers; packets = packets; shots = shots }

-- the nodes that the program holds
abbrev pub seen : {B : Type 0} → Nodes B → Seen
seen nodes = seen_of nodes.host nodes.viewers.items nodes.packets.items nodes.shots.items

-- -- the start

-- a viewer for each stage, numbered from this number on, each as its boot 1
abbrev pub viewers_from : (mark : List ℕ) → ℕ → List StageView → List ViewerView
viewers_from mark n [] = []
viewers_from mark n (stage ∷ stages) =
    record {
      mark = mark;
      who = n;
      scene = stage.scene;
      routes = stage.routes;
      state = law.begun 1 (opening stage.scene stage.routes);
      gathering = None;
    }
    ∷ viewers_from mark (suc n) stages

-- the nodes before the first step
abbrev pub begun_with : (mark : List ℕ) → List StageView → Seen
begun_with mark stages =
    seen_of (record { mark = mark; part = new_part (length stages) }) (viewers_from mark 0 stages)
    [] []

-- -- unknown numbers

-- no packet, viewer or snapshot has the step's number
abbrev pub IsUnknown : Seen → Answer → Seen → Type 0
IsUnknown s a new = (a ≡ NoSuch) × (new ≡ s)

-- -- packets sent

-- the bytes, if there are any, are appended to the packets
abbrev pub IsSent : Option (List ℕ) → List (List ℕ) → Answer → List (List ℕ) → Type 0
IsSent None old a new = (a ≡ Sent None) × (new ≡ old)
IsSent (Some bytes) old a new = (a ≡ Sent (Some (length old))) × (new ≡ old ++ bytes ∷ [])

abbrev pub message : (mark : List ℕ) → Body → Message
message mark body = record { mark = mark; body = body }

-- the datagram of a body, if there is one, is appended to the packets, and decodes to that body
abbrev pub IsMade : Seen → (mark : List ℕ) → Option Body → Answer → Seen → Type 0
IsMade s mark None a new = (a ≡ Sent None) × (new ≡ s)
IsMade s mark (Some body) a new =
    (a ≡ Sent (Some (length s.packets)))
    × (new ≡ with_packets s (s.packets ++ datagram (message mark body) ∷ []))
    × (decoded (datagram (message mark body)) ≡ Ok (message mark body))

abbrev pub IsAcked : Seen → (v : ℕ) → Option SeatCount → Answer → Seen → Type 0
IsAcked s v None a new = IsUnknown s a new
IsAcked s v (Some kept) a new = IsMade s s.host.mark (Some (ack_of v kept)) a new

-- -- packets received

abbrev pub IsHostGiven : Seen → Option (List ℕ) → Answer → Seen → Type 0
IsHostGiven s None a new = IsUnknown s a new
IsHostGiven s (Some bytes) a new =
    (result : Result HostReply HostFault) × (p : HostPart)
    × (a ≡ HostTook result) × (new ≡ with_host s p)
    × IsPartTakeOf s.host.mark s.host.part (decoded bytes) result p

abbrev pub IsGiven : Seen → (v : ℕ) → Option ViewerView → Option (List ℕ) → Answer → Seen → Type 0
IsGiven s v None bytes a new = IsUnknown s a new
IsGiven s v (Some x) None a new = IsUnknown s a new
IsGiven s v (Some x) (Some bytes) a new =
    (result : Result Taken TakeFault) × (y : law.ViewerState Scripted)
    × (a ≡ ViewerTook result) × (new ≡ with_viewer s v (with_state x y))
    × IsTakeOf (machine_of x) x.mark x.who x.state x.state.view (decoded bytes) result y

-- -- snapshots

-- a viewer that is running or spoiled saves its world
abbrev pub IsSaving : (number : ℕ) → ViewerView → List Shot → ViewerWorld Scripted → Answer
    → List Shot
    → Type 0
IsSaving number x old (Spoiled count) a new = (a ≡ Saved (Err save_fault.Spoiled)) × (new ≡ old)
IsSaving number x old (Running w window) a new =
    ((a ≡ Saved (Ok (length old)))
    × (new ≡ old ++ record { viewer = number; bytes = shot x.mark x.state.boot x.scene w } ∷ [])
    × (x.state.boot < 2 ^ 32) × (length (shot x.mark x.state.boot x.scene w) < 2 ^ 64))
    ⊎ ((a ≡ Saved (Err save_fault.Memory)) × (new ≡ old))

abbrev pub IsSaved : Seen → (v : ℕ) → Option ViewerView → Answer → Seen → Type 0
IsSaved s v None a new = IsUnknown s a new
IsSaved s v (Some x) a new =
    (new ≡ with_shots s new.shots) × IsSaving v x s.shots x.state.view a new.shots

-- if the bytes are a snapshot of this viewer's scene, rewinding to them is the law's rewind
abbrev pub IsLawful : ViewerView → (boot : ℕ) → (bytes : List ℕ) → Result ℕ SnapFault
    → law.ViewerState Scripted → Type 0
IsLawful x boot bytes result y =
    (from : law.Shot Scripted) → from.boot < 2 ^ 32
    → HasSnapshot x.scene from.state
    → bytes ≡ shot x.mark from.boot x.scene from.state
    → IsRewind (machine_of x) x.state from boot result y

abbrev pub IsRewinding : Seen → (v boot : ℕ) → Option ViewerView → Option Shot → Answer → Seen
    → Type 0
IsRewinding s v boot None kept a new = IsUnknown s a new
IsRewinding s v boot (Some x) None a new = IsUnknown s a new
IsRewinding s v boot (Some x) (Some kept) a new =
    (result : Result ℕ SnapFault) × (y : law.ViewerState Scripted)
    × (a ≡ Rewound result) × (new ≡ with_viewer s v (with_state x y))
    × IsRewound x boot kept.bytes result y × IsLawful x boot kept.bytes result y

-- ---- snapshots in pieces

abbrev pub IsCut : Seen → (i : ℕ) → Option Shot → Answer → Seen → Type 0
IsCut s i None a new = IsUnknown s a new
IsCut s i (Some kept) a new =
    (length s.host.mark ≡ 32) × IsMade s s.host.mark (piece_of kept.bytes i) a new

abbrev pub IsGathering : Seen → (v : ℕ) → Option ViewerView → Option (List ℕ) → Answer → Seen
    → Type 0
IsGathering s v None bytes a new = IsUnknown s a new
IsGathering s v (Some x) None a new = IsUnknown s a new
IsGathering s v (Some x) (Some bytes) a new =
    (result : Result Gathered GatherFault) × (held : Option Gathering)
    × (a ≡ Collected result) × (new ≡ with_viewer s v (with_gathering x held))
    × IsGatherOf x.mark x.gathering (decoded bytes) result held

abbrev pub IsJoining : Seen → (v boot : ℕ) → Option ViewerView → Answer → Seen → Type 0
IsJoining s v boot None a new = IsUnknown s a new
IsJoining s v boot (Some x) a new =
    (result : Result ℕ JoinFault) × (y : law.ViewerState Scripted) × (held : Option Gathering)
    × (a ≡ Joined result) × (new ≡ with_viewer s v (with_gathering (with_state x y) held))
    × IsJoined x (whole_of x.gathering) boot result y held
    × IsLawfulJoin x boot result y held

abbrev pub IsForgotten : Seen → (v : ℕ) → Option ViewerView → Answer → Seen → Type 0
IsForgotten s v None a new = IsUnknown s a new
IsForgotten s v (Some x) a new = (a ≡ Forgot) × (new ≡ with_viewer s v (with_gathering x None))

-- -- a step

abbrev pub IsOffering : Seen → (v : ℕ) → Step → Option ViewerView → Answer → Seen → Type 0
IsOffering s v step None a new = IsUnknown s a new
IsOffering s v (ViewerOffer u point) (Some x) a new =
    let offered = viewer_offer x.state point in
    (a ≡ Offered offered.0) × (new ≡ with_viewer s v (with_state x offered.1))
IsOffering s v (ViewerResend u place) (Some x) a new =
    IsMade s x.mark (viewer_resend x.who x.state place) a new
IsOffering s v (ViewerAsk u) (Some x) a new =
    IsMade s x.mark (Some (viewer_ask (machine_of x) x.who x.state)) a new
IsOffering s v step (Some x) a new = ⊥

-- running the step from these nodes may give this answer and leave the new nodes
abbrev pub IsCall : Seen → Step → Answer → Seen → Type 0
IsCall s (HostClock t) a new =
    (result : Result ℕ NumberFault) × (p : HostPart)
    × (a ≡ Clocked result) × (new ≡ with_host s p) × IsPartClocked s.host.part t result p
IsCall s (HostPacket n) a new = IsMade s s.host.mark (part_packet s.host.part n) a new
IsCall s (HostAck v) a new = IsAcked s v (slice_get s.host.part.kept v) a new
IsCall s (HostDropBelow f) a new =
    (result : Result ℕ FloorFault) × (p : HostPart)
    × (a ≡ Dropped result) × (new ≡ with_host s p)
    × (part_drop_below s.host.part f ≡ (result, p))
IsCall s HostFloorPacket a new =
    IsMade s s.host.mark (Some (part_floor_packet s.host.part)) a new
IsCall s (PiecePacket n i) a new = IsCut s i (slice_get s.shots n) a new
IsCall s (ViewerGather v p) a new =
    IsGathering s v (slice_get s.viewers v) (slice_get s.packets p) a new
IsCall s (ViewerJoin v boot) a new = IsJoining s v boot (slice_get s.viewers v) a new
IsCall s (ViewerForget v) a new = IsForgotten s v (slice_get s.viewers v) a new
IsCall s (HostTake p) a new = IsHostGiven s (slice_get s.packets p) a new
IsCall s (ViewerTake v p) a new = IsGiven s v (slice_get s.viewers v) (slice_get s.packets p) a new
IsCall s (ViewerSave v) a new = IsSaved s v (slice_get s.viewers v) a new
IsCall s (ViewerRewind v n boot) a new =
    IsRewinding s v boot (slice_get s.viewers v) (slice_get s.shots n) a new
IsCall s (ViewerOffer v point) a new =
    IsOffering s v (ViewerOffer v point) (slice_get s.viewers v) a new
IsCall s (ViewerResend v place) a new =
    IsOffering s v (ViewerResend v place) (slice_get s.viewers v) a new
IsCall s (ViewerAsk v) a new = IsOffering s v (ViewerAsk v) (slice_get s.viewers v) a new

-- running the steps in order may give these answers and leave the new nodes
abbrev pub AreCalls : Seen → List Step → List Answer → Seen → Type 0
AreCalls s [] [] new = new ≡ s
AreCalls s (step ∷ steps) (a ∷ answers) new =
    (mid : Seen) × IsCall s step a mid × AreCalls mid steps answers new
AreCalls s [] (a ∷ answers) new = ⊥
AreCalls s (step ∷ steps) [] new = ⊥
