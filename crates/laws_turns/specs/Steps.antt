-- Each doing is its step of the network: in every network that has the peer, with its other peers.
use Rattle.std.specs.Prelude.{◌≡◌, ℕ, ◌+◌, ◌-◌, List, length, slice_get, Option, Some}
use Rattle.x3d_values.specs.Stamp.{StampedView}
use Rattle.cascade_core.specs.Course.{Scripted}
use Rattle.cascade_core.specs.Forgetting.{forget}
use Rattle.share_wire.specs.Decoding.{decoded}
use Rattle.share_wire.specs.declared.message.Body.{Body}
use Rattle.share_law.specs.declared.step.Step.{Step}
use Rattle.share_law.specs.declared.step.Step.TheVariants.{HostClock, HostDropBelow, HostTake}
use Rattle.share_law.specs.declared.step.Step.TheVariants.{ViewerAsk, ViewerGather, ViewerJoin}
use Rattle.share_law.specs.declared.step.Step.TheVariants.{ViewerOffer, ViewerResend, ViewerTake}
use Rattle.share_law.specs.CallSteps.{IsPacket}
use Rattle.share_law.specs.Network.{Network, Seat, Clocked, Collected, Dropped, HostTook, Joined}
use Rattle.share_law.specs.Network.{Offered, Sent, ViewerTook, with_node, with_seat}
use Rattle.share_law.specs.Parts.{HostPart}
use Rattle.share_law.specs.Viewer.{Running}
use Rattle.share_core.specs.Viewer.{ViewerView}
use Rattle.laws_calls.specs.Leads.{Leads}
use Rattle.laws_calls.specs.Moves.{HasViewer}
use Rattle.laws_calls.specs.Peers.{AreIn, Peers, machine_for, with_host, with_viewer}
use Rattle.laws_forget.specs.Network.{Forgets, Forgot, IsMove}
use Rattle.laws_turns.specs.HostDoings as host
use Rattle.laws_turns.specs.HostDoings.{HostDoing, IsHostDoing}
use Rattle.share_turns.specs.HostTurn.{datagram_of}
use Rattle.laws_turns.specs.ViewerDoings as viewer
use Rattle.laws_turns.specs.ViewerDoings.{IsViewerDoing, ViewerDoing}

-- the step sends this datagram's body, as the network's next packet
pub record SendsBody (ps : Peers) (net : Network Scripted) (step : Step) (bytes : List ℕ) :
    Type 0 where
  pub leads : Leads net step (Sent (Some (length net.sent))) ps
  pub body : Body
  pub sent : slice_get leads.next.sent (length net.sent) ≡ Some body
  pub is : bytes ≡ datagram_of ps.mark body

-- what a doing of the host leads to; a datagram that it takes has to be packet p of the network
abbrev pub HostBrings : Peers → Network Scripted → HostDoing → HostPart → Type 0
HostBrings ps net (host.Clocks time result) new =
    Leads net (HostClock time) (Clocked result)
    (with_host ps (record { mark = ps.mark; part = new }))
HostBrings ps net (host.Takes came result) new =
    (p : ℕ) → IsPacket ps.mark net p (decoded came.bytes)
    → Leads net (HostTake p) (HostTook result)
    (with_host ps (record { mark = ps.mark; part = new }))
HostBrings ps net (host.Sends step sent) new = SendsBody ps net step sent.bytes
HostBrings ps net (host.Drops floor result) new =
    Leads net (HostDropBelow floor) (Dropped result)
    (with_host ps (record { mark = ps.mark; part = new }))
HostBrings ps net host.Waits new = Unit {0}

abbrev pub HostDoingsAreSteps : Type 0
HostDoingsAreSteps =
    (ps : Peers) (net : Network Scripted) → AreIn ps net
    → (doing : HostDoing) (new : HostPart) → IsHostDoing ps.mark ps.host.part doing new
    → HostBrings ps net doing new

-- what a doing of a viewer leads to; of a piece of its snapshot `PieceSends` of laws_calls says it,
-- and of lines that are forgotten `ForgettingsAreMoves`
abbrev pub ViewerBrings : Peers → Network Scripted → (old : ViewerView) → ViewerDoing → ViewerView
    → Type 0
ViewerBrings ps net old (viewer.Offers point result) new =
    Leads net (ViewerOffer old.who point) (Offered result) (with_viewer ps new)
ViewerBrings ps net old (viewer.Takes came result) new =
    (p : ℕ) → IsPacket ps.mark net p (decoded came.bytes)
    → Leads net (ViewerTake old.who p) (ViewerTook result) (with_viewer ps new)
ViewerBrings ps net old (viewer.Gathers came result) new =
    (p : ℕ) → IsPacket ps.mark net p (decoded came.bytes)
    → Leads net (ViewerGather old.who p) (Collected result) (with_viewer ps new)
ViewerBrings ps net old (viewer.Resends place sent) new =
    SendsBody ps net (ViewerResend old.who place) sent.bytes
ViewerBrings ps net old (viewer.Asks sent) new = SendsBody ps net (ViewerAsk old.who) sent.bytes
ViewerBrings ps net old (viewer.Joins boot result) new =
    Leads net (ViewerJoin old.who boot) (Joined result) (with_viewer ps new)
ViewerBrings ps net old doing new = Unit {0}

abbrev pub ViewerDoingsAreSteps : Type 0
ViewerDoingsAreSteps =
    (ps : Peers) (net : Network Scripted) (old : ViewerView) → HasViewer ps net old
    → (doing : ViewerDoing) (new : ViewerView) → IsViewerDoing old doing new
    → ViewerBrings ps net old doing new

-- a running viewer that forgets makes the move of a network in which viewers forget, where it has
-- this seat: its seat then has its new state, and all else stays
abbrev pub ForgettingsAreMoves : Type 0
ForgettingsAreMoves =
    (ps : Peers) (net : Network Scripted) (x : Seat Scripted) (old new : ViewerView) (last : ℕ)
    (w : Scripted) (window : List (Option StampedView))
    → slice_get net.viewers old.who ≡ Some x → x.node ≡ old.state
    → old.state.view ≡ Running w window → IsViewerDoing old (viewer.Forgets last) new
    → IsMove (machine_for ps) forget net (Forgets old.who (w.world.applied + 1 - last)) Forgot
    (with_seat net old.who (with_node x new.state))
