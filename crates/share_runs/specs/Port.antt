-- What a port of a viewer in a run hands on and sends (our choice).
use Rattle.std.specs.Prelude.{◌≡◌, ℕ, ◌++◌, ◌∷◌, [], List, Option, None, Some, IfSome, Result, Ok, Err}
use Rattle.std.specs.List.{AllByRecursion}
use Rattle.std.specs.Option.{option_map}
use Rattle.share_session.specs.declared.fault.DatagramFault.{DatagramFault}
use Rattle.share_session.specs.declared.message.Hello.{Hello as AHello}
use Rattle.share_session.specs.declared.message.Message2.{Message2}
use Rattle.share_session.specs.declared.message.Message2.TheVariants.{Hello}
use Rattle.share_session.specs.Datagram.{datagram}
use Rattle.share_turns.specs.Told.{Grows}
use Rattle.share_turns.specs.declared.port.PortFault.{PortFault}
use Rattle.share_turns.specs.declared.traffic.Traffic.{Traffic}
use Rattle.share_turns.specs.declared.traffic.Traffic.TheVariants.{Received, Sent}
use Rattle.share_runs.specs.declared.view_port.Handing.{Handing}
use Rattle.share_runs.specs.declared.view_port.Handing.TheVariants.{Nothing, Dropped, Handed}
use Rattle.share_runs.specs.declared.viewer_run.ViewerRun.{ViewerRun}
use Rattle.share_runs.specs.Hearing.{IsHeard, IsTaken, KnowsMore, early_said}
use Rattle.share_runs.specs.Steps.{step_of}

-- bytes that came from a peer, among what passed
abbrev pub HasCome : List Traffic → (from : ℕ) → (bytes : List ℕ) → Type 0
HasCome passed from bytes =
    (before after : List Traffic)
    × (passed ≡ before ++ Received (record { peer = from; bytes = bytes }) ∷ after)

-- each held input came, as a datagram of the viewer's session
abbrev pub HaveCome : List Traffic → ViewerRun → Type 0
HaveCome passed r =
    AllByRecursion (λ e. HasCome passed e.from (datagram (early_said r e))) r.held.items

-- the port below keeps a record, and what is held is in it
pub record IsRecorded (told : Option (List Traffic)) (r : ViewerRun) : Type 0 where
  pub passed : List Traffic
  pub is : told ≡ Some passed
  pub held : HaveCome passed r

-- Bytes are handed on as from a peer: they are what the viewer hears of a datagram of version 2
-- that the port below received from that peer, now or earlier.
pub record IsHandedOn (told : Option (List Traffic)) (r : ViewerRun) (from : ℕ)
    (bytes : List ℕ) : Type 0 where
  pub passed : List Traffic
  pub is : told ≡ Some passed
  pub m : Message2
  pub has_come : HasCome passed from (datagram m)
  pub is_heard : IsHeard r.session r.mark r.known m bytes

-- some message of version 2 is heard so
abbrev pub IsOfRun : ViewerRun → (bytes : List ℕ) → Type 0
IsOfRun r bytes = (m : Message2) × IsHeard r.session r.mark r.known m bytes

-- who sent it, and the bytes that are handed on
abbrev pub handed_in : Handing → Option (ℕ × List ℕ)
handed_in Nothing = None
handed_in Dropped = None
handed_in (Handed from packet) = Some (from, packet.items)

abbrev pub handed_of : Result Handing PortFault → Option (ℕ × List ℕ)
handed_of (Ok came) = handed_in came
handed_of (Err fault) = None

-- from one moment to a later one, at which this was handed on
pub record Hears (old new : ViewerRun) (told_before told_after : Option (List Traffic))
    (handed : Option (ℕ × List ℕ)) : Type 0 where
  pub mark : new.mark ≡ old.mark
  pub session : new.session ≡ old.session
  pub knows_more : KnowsMore old.known new.known
  pub of_run : IfSome handed (λ h. IsOfRun new h.1)
  pub recorded : IsRecorded told_before old → IsRecorded told_after new
  pub came : IsRecorded told_before old
      → IfSome handed (λ h. IsHandedOn told_after new h.0 h.1)

-- a message is taken; other bytes than a datagram of version 2 change nothing
abbrev pub IsBytesTaken : Result Message2 DatagramFault → (old : ViewerRun) → (from : ℕ)
    → Option (List ℕ) → (new : ViewerRun) → Type 0
IsBytesTaken (Ok m) old from handed new =
    IsTaken (step_of old.session old.known m) old from m handed new
IsBytesTaken (Err fault) old from handed new = (handed ≡ None) × (new ≡ old)

-- ---- what is sent

-- bytes to a peer, if there are any
abbrev pub sent_to : (peer : ℕ) → Option (List ℕ) → List Traffic
sent_to peer None = []
sent_to peer (Some bytes) = Sent (record { peer = peer; bytes = bytes }) ∷ []

abbrev pub hello_text : AHello → List ℕ
hello_text h = datagram (Hello h)

-- a Hello to the host, if one is said, and then the datagram of version 2 of what was given
abbrev pub AreSent : (host : ℕ) → Option AHello → (told_before told_after : Option (List Traffic))
    → (peer : ℕ) → Option Message2 → Type 0
AreSent host hello told_before told_after peer said =
    Grows told_before told_after
    (sent_to host (option_map hello_text hello) ++ sent_to peer (option_map datagram said))
