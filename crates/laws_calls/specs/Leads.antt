-- What a step of the network leads to, with the real peers after the call.
use Rattle.std.specs.Prelude.{◌≡◌, ℕ, ◌++◌, List, length, slice_get, Option, None, Some, Result}
use Rattle.std.specs.Prelude.{Ok, Err}
use Rattle.cascade_core.specs.Course.{Scripted}
use Rattle.snapshot_core.specs.declared.fault.SaveFault.{SaveFault}
use Rattle.share_wire.specs.Decoding.{decoded}
use Rattle.share_law.specs.declared.step.Step.{Step}
use Rattle.share_law.specs.declared.step.Step.TheVariants.{ViewerSave}
use Rattle.share_law.specs.CallSteps.{IsPacket}
use Rattle.share_law.specs.Network.{Network, Answer, Sent, Saved, IsStep}
use Rattle.share_law.specs.Pieces.{shot_text}
use Rattle.share_law.specs.Viewer.{Shot}
use Rattle.laws_calls.specs.Peers.{Peers, AreIn, machine_for}

-- the step may give this answer, and these are the peers of the network that it leaves
pub record Leads (net : Network Scripted) (step : Step) (answer : Answer) (ps : Peers) :
    Type 0 where
  pub next : Network Scripted
  pub is : IsStep (machine_for ps) net step answer next
  pub are : AreIn ps next

-- the step sends one more packet: these bytes decode to it
pub record SendsBytes (net : Network Scripted) (step : Step) (bytes : List ℕ) (ps : Peers) :
    Type 0 where
  pub leads : Leads net step (Sent (Some (length net.sent))) ps
  pub packet : IsPacket ps.mark leads.next (length net.sent) (decoded bytes)

-- the step sends the bytes, if there are any
abbrev pub SendsAny : Network Scripted → Step → (bytes : Option (List ℕ)) → Peers → Type 0
SendsAny net step None ps = Leads net step (Sent None) ps
SendsAny net step (Some bytes) ps = SendsBytes net step bytes ps

-- the step of viewer `who` takes one more snapshot: its bytes are appended
pub record TakesSnapshot (net : Network Scripted) (who : ℕ) (old new : List ℕ) (ps : Peers) :
    Type 0 where
  pub leads : Leads net (ViewerSave who) (Saved (Ok (length net.shots))) ps
  pub shot : Shot Scripted
  pub taken : slice_get leads.next.shots (length net.shots) ≡ Some shot
  pub bytes : new ≡ old ++ shot_text (machine_for ps) shot

-- the viewer's step takes a snapshot, or is refused as the call was
abbrev pub SavesAny : Network Scripted → (who : ℕ) → Result (Unit {0}) SaveFault
    → (old new : List ℕ) → Peers → Type 0
SavesAny net who (Ok done) old new ps = TakesSnapshot net who old new ps
SavesAny net who (Err fault) old new ps =
    (new ≡ old) × Leads net (ViewerSave who) (Saved (Err fault)) ps
