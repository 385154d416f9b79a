-- A turn of a viewer: it offers a point, takes the datagrams that arrive, and then sends to its
-- host.
use Rattle.std.specs.Prelude.{◌≡◌, ◌⊎◌, ⊤, ℕ, ◌≤◌, Bool, true, false, is_ok, List, [], ◌∷◌, ◌++◌, map, length}
use Rattle.std.specs.Prelude.{Option, Some, None, Result, Ok, Err, IfOk}
use Rattle.x3d_values.specs.declared.pointing.Point.{Point}
use Rattle.share_wire.specs.Decoding.{decoded}
use Rattle.share_law.specs.declared.fault.OfferFault.{OfferFault}
use Rattle.share_law.specs.declared.fault.TakeFault.{TakeFault}
use Rattle.share_law.specs.declared.reply.Taken.{Taken}
use Rattle.share_law.specs.Machine.{Machine}
use Rattle.share_law.specs.Viewer.{ViewerState, viewer_ask, viewer_offer, viewer_resend}
use Rattle.share_law.specs.Calls.{IsTakeOf}
use Rattle.share_law.specs.Network.{ViewerTook}
use Rattle.share_law.specs.Steps.{says_memory}
use Rattle.share_turns.specs.declared.traffic.Datagram.{Datagram}
use Rattle.share_turns.specs.declared.traffic.Traffic.{Traffic}
use Rattle.share_turns.specs.declared.traffic.Traffic.TheVariants.{Received}
use Rattle.share_turns.specs.Told.{Grows}
use Rattle.share_turns.specs.declared.fault.TurnFault.{TurnFault}
use Rattle.share_turns.specs.declared.fault.TurnFault.TheVariants.{Memory}
use Rattle.share_turns.specs.Exchanges.{IsEnd, IsSentOf, most_taken, sent_to}
use Rattle.share_turns.specs.HostTurn.{datagrams_of, listed}
use Rattle.share_turns.specs.Refusals.{IsAnswerAfter}

-- a viewer offers a point, if there is one, or refuses it
abbrev pub IsOffered : {W : Type 0} → ViewerState W → Option Point → (offered : Bool)
    → ViewerState W → Type 0
IsOffered x None offered y = (y ≡ x) × (offered ≡ false)
IsOffered x (Some point) offered y =
    (result : Result ℕ OfferFault) × (viewer_offer x point ≡ (result, y)) × (offered ≡ is_ok result)

-- a viewer takes the bytes of a datagram, or refuses them, perhaps as memory is refused
abbrev pub IsTaking : {W : Type 0} → Machine W → (mark : List ℕ) (who : ℕ) → ViewerState W
    → (came : List ℕ) → (refused : Bool) → ViewerState W → Type 0
IsTaking m mark who x came refused y =
    (answer : Result Taken TakeFault) × IsTakeOf m mark who x x.view (decoded came) answer y
    × (refused ≡ says_memory (ViewerTook answer))

-- a datagram that arrived, and whether memory was refused to its take
pub record Taking : Type 0 where
  pub came : Datagram
  pub refused : Bool

-- a viewer takes one datagram after another
abbrev pub AreTaken : {W : Type 0} → Machine W → (mark : List ℕ) (who : ℕ) → ViewerState W
    → List Taking → ViewerState W → Type 0
AreTaken m mark who x [] y = y ≡ x
AreTaken {W} m mark who x (t ∷ others) y =
    (next : ViewerState W) × IsTaking m mark who x t.came.bytes t.refused next
    × AreTaken m mark who next others y

-- the datagrams that arrived
abbrev pub received : List Taking → List Traffic
received takings = map (λ t. Received t.came) takings

abbrev pub refusals_of : List Taking → List Bool
refusals_of takings = map (λ t. t.refused) takings

-- like `AreTaken`, for as many datagrams as a turn takes or until no more arrive, as a port records
-- them
pub record Takes {W : Type 0} (m : Machine W) (mark : List ℕ) (who : ℕ)
    (result : Result (Unit {0}) TurnFault) (told_before told_after : Option (List Traffic))
    (old new : ViewerState W) : Type 0 where
  pub takings : List Taking
  pub taken : AreTaken m mark who old takings new
  pub memory : IsAnswerAfter (refusals_of takings) result
  pub most : length takings ≤ most_taken
  pub rest : List Traffic
  pub ended : IsEnd (is_ok result) (length takings) rest
  pub told : Grows told_before told_after (received takings ++ rest)

-- the offer that has waited longest, if one waits, and an ask
abbrev pub requests : {W : Type 0} → Machine W → (mark : List ℕ) (who : ℕ) → ViewerState W
    → List (List ℕ)
requests m mark who x =
    datagrams_of mark (listed (viewer_resend who x 0) ++ viewer_ask m who x ∷ [])

-- the turn ended before all was taken, so nothing was sent
abbrev pub IsCut : Result Bool TurnFault → (rest : List Traffic) → (sent : List (List ℕ)) → Type 0
IsCut (Ok offered) rest sent = ⊥
IsCut (Err fault) rest sent = (rest ≡ []) × (sent ≡ [])

-- memory that is refused to an input cuts the turn: nothing is sent, whichever datagram it was
abbrev pub IsCutByMemory : Result Bool TurnFault → (rest : List Traffic)
    → (sent : List (List ℕ)) → Type 0
IsCutByMemory (Err Memory) rest sent = (rest ≡ []) × (sent ≡ [])
IsCutByMemory result rest sent = ⊤

-- a turn of a viewer; if it ends early, perhaps not everything is sent
pub record IsViewerTurn {W : Type 0} (m : Machine W) (mark : List ℕ) (who host : ℕ)
    (point : Option Point) (told_before told_after : Option (List Traffic))
    (old : ViewerState W) (result : Result Bool TurnFault) (new : ViewerState W) : Type 0 where
  pub offered : Bool
  pub answer : IfOk result (λ b. b ≡ offered)
  pub begun : ViewerState W
  pub offers : IsOffered old point offered begun
  pub takings : List Taking
  pub taken : AreTaken m mark who begun takings new
  pub memory : IsAnswerAfter (refusals_of takings) result
  pub most : length takings ≤ most_taken
  pub rest : List Traffic
  pub sent : List (List ℕ)
  pub ended : IsEnd true (length takings) rest ⊎ IsCut result rest sent
  pub cut : IsCutByMemory result rest sent
  pub of_wanted : IsSentOf (is_ok result) sent (requests m mark who new)
  pub told : Grows told_before told_after ((received takings ++ rest) ++ sent_to host sent)
