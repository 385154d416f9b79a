-- Turns of a viewer that gives: it sends the pieces of its snapshot to a port, over and over.
use Rattle.std.specs.Prelude.{◌≡◌, ◌⊎◌, ℕ, zero, suc, ◌%◌, ◌<◌, ◌==◌, ◌++◌, true, false, List, Option}
use Rattle.std.specs.Prelude.{None, Some, Result, Ok, Err, if◌then◌else◌}
use Rattle.share_wire.specs.declared.message.Body.{Body}
use Rattle.share_core.specs.Pieces.{count_of, piece_of}
use Rattle.share_core.specs.Viewer.{IfRunning, IfSpoiled, ViewerView}
use Rattle.snapshot_core.specs.Shot.{shot}
use Rattle.snapshot_core.specs.declared.fault.SaveFault.{SaveFault}
use Rattle.snapshot_core.specs.declared.fault.SaveFault.TheVariants as save
use Rattle.share_turns.specs.declared.traffic.Traffic.{Traffic}
use Rattle.share_turns.specs.declared.fault.TurnFault.{TurnFault}
use Rattle.share_turns.specs.declared.fault.TurnFault.TheVariants.{Memory, Port, Spoiled}
use Rattle.share_turns.specs.Exchanges.{AreSent}
use Rattle.share_turns.specs.Gathers.{Comes}
use Rattle.share_turns.specs.HostTurn.{datagrams_of, listed}
use Rattle.share_turns.specs.ViewerTurn.{Taking}

-- the piece to send in turn n, both counted from 0: each of `count` pieces in order, and then the
-- first one again
abbrev pub piece_in_turn : (count n : ℕ) → ℕ
piece_in_turn count n = if count == 0 then 0 else n % count

abbrev pub piece_among : (count : Option ℕ) → (bytes : List ℕ) → (n : ℕ) → Option Body
piece_among None bytes n = None
piece_among (Some count) bytes n = piece_of bytes (piece_in_turn count n)

-- the datagram of turn n for a snapshot of these bytes, if it has pieces
abbrev pub given_in : (mark bytes : List ℕ) → (n : ℕ) → List (List ℕ)
given_in mark bytes n = datagrams_of mark (listed (piece_among (count_of bytes) bytes n))

-- the datagrams that arrive are discarded
abbrev pub IsPassedOver : Result (Unit {0}) TurnFault
    → (told_before told_after : Option (List Traffic)) → Type 0
IsPassedOver result a b = (takings : List Taking) × Comes result a b takings

-- turn n: a piece is sent to a port, and the datagrams that arrive are discarded
abbrev pub IsGiveTurn : (mark bytes : List ℕ) → (to n : ℕ)
    → (told_before told_after : Option (List Traffic)) → Type 0
IsGiveTurn mark bytes to n a b =
    (between : Option (List Traffic)) × AreSent true to a between (given_in mark bytes n)
    × IsPassedOver (Ok tt) between b

-- turn n, in which the port failed
abbrev pub IsGiveCut : (mark bytes : List ℕ) → (to n : ℕ)
    → (told_before told_after : Option (List Traffic)) → Type 0
IsGiveCut mark bytes to n a b =
    AreSent false to a b (given_in mark bytes n)
    ⊎ ((between : Option (List Traffic)) × AreSent true to a between (given_in mark bytes n)
    × IsPassedOver (Err Port) between b)

-- `turns` turns
abbrev pub GiveTurns : (mark bytes : List ℕ) → (to turns : ℕ)
    → (told_before told_after : Option (List Traffic)) → Type 0
GiveTurns mark bytes to zero a b = b ≡ a
GiveTurns mark bytes to (suc n) a b =
    (between : Option (List Traffic)) × GiveTurns mark bytes to n a between
    × IsGiveTurn mark bytes to n between b

-- turns, up to one in which the port failed
pub record GiveTurnsEnd (mark bytes : List ℕ) (to turns : ℕ)
    (told_before told_after : Option (List Traffic)) : Type 0 where
  pub done : ℕ
  pub fewer : done < turns
  pub between : Option (List Traffic)
  pub before : GiveTurns mark bytes to done told_before between
  pub last : IsGiveCut mark bytes to done between told_after

-- ---- the viewer's own snapshot, which it takes once

abbrev pub not_taken : SaveFault → TurnFault
not_taken save.Spoiled = Spoiled
not_taken save.Memory = Memory

-- the bytes of the viewer's snapshot are appended; or none was taken, because the viewer is spoiled
-- or memory was refused
abbrev pub IsShot : ViewerView → (before : List ℕ) → Result (Unit {0}) TurnFault
    → (after : List ℕ) → Type 0
IsShot v before (Ok done) after = IfSpoiled v.state.view ⊥
    × IfRunning v.state.view (λ w. after ≡ before ++ shot v.mark v.state.boot v.scene w)
IsShot v before (Err Port) after = ⊥
IsShot v before (Err Spoiled) after = IfRunning v.state.view (λ w. ⊥)
IsShot v before (Err Memory) after = IfSpoiled v.state.view ⊥

abbrev pub Gives : ViewerView → (to turns : ℕ) → (told_before told_after : Option (List Traffic))
    → Type 0
Gives v to turns a b = IfSpoiled v.state.view ⊥
    × IfRunning v.state.view (λ w.
    GiveTurns v.mark (shot v.mark v.state.boot v.scene w) to turns a b)

-- the port failed; or no snapshot was taken, because the viewer is spoiled or memory was refused
abbrev pub IsGiveEnd : ViewerView → (to turns : ℕ)
    → (told_before told_after : Option (List Traffic)) → TurnFault → Type 0
IsGiveEnd v to turns a b Port = IfSpoiled v.state.view ⊥
    × IfRunning v.state.view (λ w.
    GiveTurnsEnd v.mark (shot v.mark v.state.boot v.scene w) to turns a b)
IsGiveEnd v to turns a b Spoiled = IfRunning v.state.view (λ w. ⊥) × (b ≡ a)
IsGiveEnd v to turns a b Memory = IfSpoiled v.state.view ⊥ × (b ≡ a)
