-- The traffic of a turn: datagrams that arrive, and what is sent to the peer of each.
use Rattle.std.specs.Prelude.{◌≡◌, ◌⊎◌, ℕ, Bool, true, false, List, [], ◌∷◌, ◌++◌, map, Option}
use Rattle.std.specs.List.{flat_map}
use Rattle.share_turns.specs.declared.traffic.Datagram.{Datagram}
use Rattle.share_turns.specs.declared.traffic.Traffic.{Traffic}
use Rattle.share_turns.specs.declared.traffic.Traffic.TheVariants.{Nothing, Received, Sent}
use Rattle.share_turns.specs.Told.{Grows}

-- a datagram that arrived, whether memory was refused to its take, and what was sent to its peer
-- for it
pub record Exchange : Type 0 where
  pub came : Datagram
  pub refused : Bool
  pub sent : List (List ℕ)

-- datagrams that were sent to a peer
abbrev pub sent_to : (peer : ℕ) → List (List ℕ) → List Traffic
sent_to peer sent = map (λ bytes. Sent (record { peer = peer; bytes = bytes })) sent

abbrev pub traffic_of : Exchange → List Traffic
traffic_of e = Received e.came ∷ sent_to e.came.peer e.sent

abbrev pub all_traffic : List Exchange → List Traffic
all_traffic es = flat_map traffic_of es

abbrev pub refusals_in : List Exchange → List Bool
refusals_in es = map (λ e. e.refused) es

-- the largest number of datagrams that a turn takes
abbrev pub most_taken : ℕ
most_taken = 64

-- What a port records after the datagrams that arrived. If all were taken: that nothing more
-- arrived, or no record if as many arrived as a turn takes. If the turn ended early: no record.
abbrev pub IsEnd : (all : Bool) → (came : ℕ) → List Traffic → Type 0
IsEnd true came rest = (rest ≡ Nothing ∷ []) ⊎ ((rest ≡ []) × (came ≡ most_taken))
IsEnd false came rest = rest ≡ []

-- what was sent is all that had to be sent, or a prefix of it if the port failed
abbrev pub IsSentOf : (whole : Bool) → (sent wanted : List (List ℕ)) → Type 0
IsSentOf true sent wanted = sent ≡ wanted
IsSentOf false sent wanted = (lost : List (List ℕ)) × (sent ++ lost ≡ wanted)

-- these datagrams had to be sent to a peer, and were, or a prefix of them
pub record AreSent (whole : Bool) (peer : ℕ) (told_before told_after : Option (List Traffic))
    (wanted : List (List ℕ)) : Type 0 where
  pub sent : List (List ℕ)
  pub of_wanted : IsSentOf whole sent wanted
  pub told : Grows told_before told_after (sent_to peer sent)
