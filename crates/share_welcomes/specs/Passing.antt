-- What passes through a host's port, as the host sees it: in version 1. And what that says of the
-- port below.
use Rattle.std.specs.Prelude.{◌≡◌, ◌⊎◌, ℕ, Bool, true, false, List, [], ◌∷◌, map, Option, None, Some, Result, Ok, Err}
use Rattle.std.specs.List.{flat_map}
use Rattle.std.specs.Option.{option_map}
use Rattle.share_wire.specs.Datagram.{datagram}
use Rattle.share_wire.specs.declared.message.Message.{Message}
use Rattle.share_session.specs.Decoding as two
use Rattle.share_session.specs.Heard.{heard}
use Rattle.share_session.specs.declared.fault.DatagramFault.{DatagramFault}
use Rattle.share_session.specs.declared.message.Message2.{Message2}
use Rattle.share_session.specs.declared.message.Message2.TheVariants.{Welcome}
use Rattle.share_turns.specs.Told.{Grows}
use Rattle.share_turns.specs.declared.traffic.Traffic.{Traffic}
use Rattle.share_turns.specs.declared.traffic.Traffic.TheVariants.{Nothing, Received, Sent}
use Rattle.share_welcomes.specs.declared.host_run.HostRun.{HostRun}
use Rattle.share_welcomes.specs.declared.host_run.Coming.{Coming}
use Rattle.share_welcomes.specs.declared.host_run.Coming.TheVariants.{Plain, Heard, Greets, Strange}
use Rattle.share_welcomes.specs.Coming.{coming_of, handed, welcome_to}
use Rattle.share_welcomes.specs.Learned.{LearnedView, last_boot}
use Rattle.share_welcomes.specs.Versions.{noted}

-- ---- in version 1

abbrev pub coming_in : HostRun → List ℕ → Coming
coming_in r bytes = coming_of r (two.decoded bytes)

abbrev pub handed_on : HostRun → List ℕ → List ℕ
handed_on r bytes = handed (coming_in r bytes) bytes

-- what a peer of the run hears; nothing for a Welcome
abbrev pub heard_in : Option Message → List (List ℕ)
heard_in None = []
heard_in (Some m) = datagram m ∷ []

-- what a datagram says, given the message of version 2 that it is, or the fault
abbrev pub said_in : HostRun → List ℕ → Result Message2 DatagramFault → List (List ℕ)
said_in r bytes (Ok m) = heard_in (heard r.session r.mark m)
said_in r bytes (Err fault) = bytes ∷ []

abbrev pub sent_in : (peer : ℕ) → List (List ℕ) → List Traffic
sent_in peer texts = map (λ bytes. Sent (record { peer = peer; bytes = bytes })) texts

abbrev pub in_one : HostRun → Traffic → List Traffic
in_one r Nothing = Nothing ∷ []
in_one r (Received d) = Received (record { peer = d.peer; bytes = handed_on r d.bytes }) ∷ []
in_one r (Sent d) = sent_in d.peer (said_in r d.bytes (two.decoded d.bytes))

-- what passed, in version 1
abbrev pub told_in_one : HostRun → Option (List Traffic) → Option (List Traffic)
told_in_one r told = option_map (flat_map (in_one r)) told

-- ---- below

-- the Welcome to a Hello, which the port below may lose; nothing else is sent for a datagram that
-- comes
abbrev pub Welcomes : HostRun → LearnedView → (peer : ℕ) → Coming → List Traffic → Type 0
Welcomes r l peer (Greets h) sent =
    (sent ≡ [])
    ⊎ ((bytes : List ℕ)
    × (two.decoded bytes ≡ Ok (Welcome (welcome_to r h (last_boot h.who l))))
    × (sent ≡ Sent (record { peer = peer; bytes = bytes }) ∷ []))
Welcomes r l peer Plain sent = sent ≡ []
Welcomes r l peer (Heard m) sent = sent ≡ []
Welcomes r l peer Strange sent = sent ≡ []

-- whether the peer is answered in version 2 from then on
abbrev pub versions_after : Coming → (peer : ℕ) → List Bool → List Bool
versions_after Plain peer versions = noted versions peer false
versions_after (Heard m) peer versions = noted versions peer true
versions_after (Greets h) peer versions = versions
versions_after Strange peer versions = versions

-- a datagram came, and these bytes of it are handed on
pub record IsHandedOn (r : HostRun) (l : LearnedView) (peer : ℕ) (bytes : List ℕ)
    (told_before told_after : Option (List Traffic)) (before after : List Bool) : Type 0 where
  pub came : List ℕ
  pub handed : bytes ≡ handed_on r came
  pub sent : List Traffic
  pub welcomes : Welcomes r l peer (coming_in r came) sent
  pub told : Grows told_before told_after (Received (record { peer = peer; bytes = came }) ∷ sent)
  pub noted : after ≡ versions_after (coming_in r came) peer before
