-- A call on a real peer is a step: whatever network has the peer before the call, the step leads to
-- one that has it after the call, with all other peers as they were.
use Rattle.std.specs.Prelude.{◌≡◌, ℕ, List, slice_get, Option, Some, Result}
use Rattle.cascade_core.specs.Course.{Scripted}
use Rattle.snapshot_core.specs.declared.fault.SaveFault.{SaveFault}
use Rattle.share_wire.specs.declared.fault.WireFault.{WireFault}
use Rattle.share_wire.specs.declared.message.Message.{Message}
use Rattle.share_law.specs.declared.step.Step.{Step}
use Rattle.share_law.specs.CallSteps.{IsPacket, IsShot}
use Rattle.share_law.specs.Network.{Network, Answer}
use Rattle.share_law.specs.Viewer.{Shot}
use Rattle.share_core.specs.Host.{HostView}
use Rattle.share_core.specs.Viewer.{ViewerView}
use Rattle.laws_calls.specs.Peers.{Peers, AreIn, machine_for, with_host, with_viewer}
use Rattle.laws_calls.specs.Leads.{Leads, SendsAny, SavesAny}

-- ---- the host

-- a call on the host
abbrev pub HostMoves : (old new : HostView) → Step → Answer → Type 0
HostMoves old new step answer =
    (ps : Peers) (net : Network Scripted) → AreIn ps net → ps.host ≡ old
    → Leads net step answer (with_host ps new)

-- the host takes what decodes so: packet p of the network, whichever that is
abbrev pub HostMovesBy : (old new : HostView) → Result Message WireFault → (step : ℕ → Step)
    → Answer → Type 0
HostMovesBy old new decoded step answer =
    (ps : Peers) (net : Network Scripted) → AreIn ps net → ps.host ≡ old
    → (p : ℕ) → IsPacket ps.mark net p decoded
    → Leads net (step p) answer (with_host ps new)

-- the host sends these bytes, or nothing
abbrev pub HostSends : HostView → Step → Option (List ℕ) → Type 0
HostSends host step bytes =
    (ps : Peers) (net : Network Scripted) → AreIn ps net → ps.host ≡ host
    → SendsAny net step bytes ps

-- ---- a viewer

-- the viewer is one of the peers of a network
pub record HasViewer (ps : Peers) (net : Network Scripted) (viewer : ViewerView) : Type 0 where
  pub are : AreIn ps net
  pub at : slice_get ps.viewers viewer.who ≡ Some viewer

-- a call on a viewer
abbrev pub ViewerMoves : (old new : ViewerView) → Step → Answer → Type 0
ViewerMoves old new step answer =
    (ps : Peers) (net : Network Scripted) → HasViewer ps net old
    → Leads net step answer (with_viewer ps new)

-- the viewer takes or gathers what decodes so: packet p of the network, whichever that is
abbrev pub ViewerMovesBy : (old new : ViewerView) → Result Message WireFault → (step : ℕ → Step)
    → Answer → Type 0
ViewerMovesBy old new decoded step answer =
    (ps : Peers) (net : Network Scripted) → HasViewer ps net old
    → (p : ℕ) → IsPacket ps.mark net p decoded
    → Leads net (step p) answer (with_viewer ps new)

-- the viewer restarts from these bytes: snapshot s of the network, whichever that is
abbrev pub ViewerMovesTo : (old new : ViewerView) → (bytes : List ℕ) → (step : ℕ → Step) → Answer
    → Type 0
ViewerMovesTo old new bytes step answer =
    (ps : Peers) (net : Network Scripted) → HasViewer ps net old
    → (s : ℕ) (shot : Shot Scripted) → IsShot (machine_for ps) net s shot bytes
    → Leads net (step s) answer (with_viewer ps new)

-- the viewer sends these bytes, or nothing
abbrev pub ViewerSends : ViewerView → Step → Option (List ℕ) → Type 0
ViewerSends viewer step bytes =
    (ps : Peers) (net : Network Scripted) → HasViewer ps net viewer → SendsAny net step bytes ps

-- the viewer appends a snapshot, or is refused
abbrev pub ViewerSaves : ViewerView → Result (Unit {0}) SaveFault → (old new : List ℕ) → Type 0
ViewerSaves viewer result old new =
    (ps : Peers) (net : Network Scripted) → HasViewer ps net viewer
    → SavesAny net viewer.who result old new ps

-- ---- pieces

-- a piece of these bytes is sent, or nothing: of snapshot s of the network, whichever that is
abbrev pub PieceSends : (mark bytes : List ℕ) → (step : ℕ → Step) → Option (List ℕ) → Type 0
PieceSends mark bytes step sent =
    (ps : Peers) (net : Network Scripted) → AreIn ps net → ps.mark ≡ mark
    → (s : ℕ) (shot : Shot Scripted) → IsShot (machine_for ps) net s shot bytes
    → SendsAny net (step s) sent ps
