-- Turns of a viewer that joins: it gathers the pieces of a snapshot as they arrive, and starts from
-- the snapshot once no piece is missing.
use Rattle.std.specs.Prelude.{◌≡◌, ◌⊎◌, ℕ, zero, suc, ◌+◌, ◌≤◌, ◌<◌, Bool, true, false, is_ok}
use Rattle.std.specs.Prelude.{List, [], ◌∷◌, ◌++◌, length, Option, None, Result, Ok, Err}
use Rattle.cascade_core.specs.Course.{Scripted}
use Rattle.snapshot_core.specs.declared.fault.SnapFault.TheVariants as snap
use Rattle.share_wire.specs.Decoding.{decoded}
use Rattle.share_law.specs.declared.fault.GatherFault.{GatherFault}
use Rattle.share_law.specs.declared.fault.JoinFault.{JoinFault}
use Rattle.share_law.specs.declared.fault.JoinFault.TheVariants.{NotWhole, Snap}
use Rattle.share_law.specs.declared.reply.Gathered.{Gathered}
use Rattle.share_law.specs.Calls.{IsGatherOf}
use Rattle.share_law.specs.Network.{Collected}
use Rattle.share_law.specs.Pieces.{Gathering, whole_of}
use Rattle.share_law.specs.Steps.{says_memory}
use Rattle.share_law.specs.Viewer.{ViewerState}
use Rattle.share_core.specs.Rewinds.{IsJoined, IsLawfulJoin}
use Rattle.share_core.specs.Viewer.{ViewerView, with_gathering, with_state}
use Rattle.share_turns.specs.declared.traffic.Traffic.{Traffic}
use Rattle.share_turns.specs.Told.{Grows}
use Rattle.share_turns.specs.declared.fault.SeriesFault.{SeriesFault}
use Rattle.share_turns.specs.declared.fault.SeriesFault.TheVariants.{Turn, TurnsUsedUp, Join}
use Rattle.share_turns.specs.declared.fault.TurnFault.{TurnFault}
use Rattle.share_turns.specs.declared.fault.TurnFault.TheVariants.{Memory}
use Rattle.share_turns.specs.Exchanges.{IsEnd, most_taken}
use Rattle.share_turns.specs.Refusals.{IsAnswerAfter}
use Rattle.share_turns.specs.ViewerTurn.{Taking, received, refusals_of}

-- ---- what arrives in a turn

-- datagrams, as many as a turn takes or until no more arrive, as a port records them
pub record Comes (result : Result (Unit {0}) TurnFault)
    (told_before told_after : Option (List Traffic)) (takings : List Taking) : Type 0 where
  pub memory : IsAnswerAfter (refusals_of takings) result
  pub most : length takings ≤ most_taken
  pub rest : List Traffic
  pub ended : IsEnd (is_ok result) (length takings) rest
  pub told : Grows told_before told_after (received takings ++ rest)

-- ---- a turn of gathering

-- a viewer gathers the bytes of a datagram, or refuses them, perhaps as memory is refused
abbrev pub IsGathering : (mark : List ℕ) → (held : Option Gathering) → (came : List ℕ)
    → (refused : Bool) → (new : Option Gathering) → Type 0
IsGathering mark held came refused new =
    (answer : Result Gathered GatherFault) × IsGatherOf mark held (decoded came) answer new
    × (refused ≡ says_memory (Collected answer))

-- one datagram after another
abbrev pub AreGathered : (mark : List ℕ) → (held : Option Gathering) → List Taking
    → (new : Option Gathering) → Type 0
AreGathered mark held [] new = new ≡ held
AreGathered mark held (t ∷ others) new =
    (next : Option Gathering) × IsGathering mark held t.came.bytes t.refused next
    × AreGathered mark next others new

pub record Gathers (mark : List ℕ) (result : Result (Unit {0}) TurnFault)
    (told_before told_after : Option (List Traffic)) (old new : Option Gathering) :
    Type 0 where
  pub takings : List Taking
  pub gathered : AreGathered mark old takings new
  pub came : Comes result told_before told_after takings

-- `turns` turns of gathering, after each of which pieces are missing
abbrev pub GatherTurns : (mark : List ℕ) → (turns : ℕ)
    → (told_before told_after : Option (List Traffic)) → (old new : Option Gathering) → Type 0
GatherTurns mark zero a b old new = (b ≡ a) × (new ≡ old)
GatherTurns mark (suc n) a b old new =
    (between : Option (List Traffic)) × (mid : Option Gathering)
    × GatherTurns mark n a between old mid
    × Gathers mark (Ok tt) between b mid new × (whole_of new ≡ None)

-- ---- a viewer starts from what it gathered

-- the viewer in another state and with other pieces
abbrev pub with_both : ViewerView → ViewerState Scripted → Option Gathering → ViewerView
with_both v state held = with_gathering (with_state v state) held

-- Whether the viewer has started, given the answer of its join: not if pieces are missing. A join
-- that is refused for another cause is a fault.
abbrev pub begun_by : Result ℕ JoinFault → Result Bool SeriesFault
begun_by (Ok n) = Ok true
begun_by (Err NotWhole) = Ok false
begun_by (Err (Snap snap.Memory)) = Err (Turn Memory)
begun_by (Err (Snap fault)) = Err (Join fault)

-- the viewer joins, with this boot
pub record IsBeginning (v : ViewerView) (boot : ℕ) (result : Result Bool SeriesFault)
    (state : ViewerState Scripted) (held : Option Gathering) : Type 0 where
  pub answer : Result ℕ JoinFault
  pub joined : IsJoined v (whole_of v.gathering) boot answer state held
  pub law : IsLawfulJoin v boot answer state held
  pub is : result ≡ begun_by answer

-- a turn of gathering, and then a join
pub record IsGathered (v : ViewerView) (boot : ℕ) (result : Result Bool SeriesFault)
    (told_before told_after : Option (List Traffic)) (state : ViewerState Scripted)
    (held : Option Gathering) : Type 0 where
  pub gathered : Option Gathering
  pub gathers : Gathers v.mark (Ok tt) told_before told_after v.gathering gathered
  pub beginning : IsBeginning (with_gathering v gathered) boot result state held

-- a turn of gathering that ended early
pub record IsGatherCut (v : ViewerView) (result : Result Bool SeriesFault)
    (told_before told_after : Option (List Traffic)) (state : ViewerState Scripted)
    (held : Option Gathering) : Type 0 where
  pub fault : TurnFault
  pub is : result ≡ Err (Turn fault)
  pub gathers : Gathers v.mark (Err fault) told_before told_after v.gathering held
  pub same : state ≡ v.state

abbrev pub IsGatherTurn : ViewerView → (boot : ℕ) → Result Bool SeriesFault
    → (told_before told_after : Option (List Traffic)) → ViewerState Scripted
    → (held : Option Gathering) → Type 0
IsGatherTurn v boot result a b state held =
    IsGathered v boot result a b state held ⊎ IsGatherCut v result a b state held

-- `turns` turns: pieces were missing after each but the last, after which the viewer has started
pub record HasJoined (v : ViewerView) (boot turns : ℕ) (a b : Option (List Traffic))
    (state : ViewerState Scripted) (held : Option Gathering) : Type 0 where
  pub done : ℕ
  pub is : turns ≡ done + 1
  pub between : Option (List Traffic)
  pub gathered : Option Gathering
  pub before : GatherTurns v.mark done a between v.gathering gathered
  pub last : IsGathered (with_gathering v gathered) boot (Ok true) between b state held

-- at most `turns` turns, of which the last ended early or its join was refused
pub record IsJoinCut (v : ViewerView) (boot turns : ℕ) (a b : Option (List Traffic))
    (fault : SeriesFault) (state : ViewerState Scripted) (held : Option Gathering) :
    Type 0 where
  pub done : ℕ
  pub fewer : done < turns
  pub between : Option (List Traffic)
  pub gathered : Option Gathering
  pub before : GatherTurns v.mark done a between v.gathering gathered
  pub last : IsGatherTurn (with_gathering v gathered) boot (Err fault) between b state held

-- if the turns are used up, pieces are missing after all of them; else the series was cut short
abbrev pub IsJoinEnd : ViewerView → (boot turns : ℕ) → (a b : Option (List Traffic))
    → SeriesFault → ViewerState Scripted → (held : Option Gathering) → Type 0
IsJoinEnd v boot turns a b TurnsUsedUp state held =
    GatherTurns v.mark turns a b v.gathering held × (state ≡ v.state)
IsJoinEnd v boot turns a b fault state held = IsJoinCut v boot turns a b fault state held
