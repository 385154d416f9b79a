-- What a port of a host that keeps its world gives, and to which viewers.
use Rattle.std.specs.Prelude.{◌≡◌, ℕ, ◌&&◌, Bool, true, false, List, [], Option, None, Some, IfSome, if◌then◌else◌}
use Rattle.cascade_core.specs.Held.{StageView}
use Rattle.share_logged.specs.Notes.{IsSentInTurn}
use Rattle.share_turns.specs.Told.{one_more}
use Rattle.share_turns.specs.declared.traffic.Traffic.{Traffic}
use Rattle.share_keeping.specs.Giving.{given}
use Rattle.share_keeping.specs.Joiners.{all_advanced, all_restarted, are_some, joined, joins, left, passed}
use Rattle.share_keeping.specs.Shots.{IsTaken, ShotView, is_too_old, pieces_in}
use Rattle.share_keeping.specs.declared.joiners.Joiner.{Joiner}
use Rattle.share_keeping.specs.declared.said.Said.{Said}
use Rattle.share_keeping.specs.declared.said.Said.TheVariants.{Joins, GoesOn, HasFrom, Nothing}

-- the port records nothing, since what it sends depends on time
abbrev pub no_record : Option (List Traffic)
no_record = None

-- ---- what comes and what is sent

-- a datagram came from this peer
abbrev pub heard : Said → (from : ℕ) → List (Option Joiner) → List (Option Joiner)
heard (Joins who) from js = joined js who from
heard (GoesOn who) from js = left js who
heard (HasFrom f) from js = js
heard Nothing from js = js

-- a datagram is sent to this peer: a floor ends a snapshot that is too old for one that joins
abbrev pub shot_after : Said → (to : ℕ) → List (Option Joiner) → Option ShotView → Option ShotView
shot_after (HasFrom f) to js s = if joins js to && is_too_old s f then None else s
shot_after (Joins who) to js s = s
shot_after (GoesOn who) to js s = s
shot_after Nothing to js s = s

-- ---- a rest

-- who gets pieces: of a new snapshot each gets the first ones
abbrev pub ready : (before : Option ShotView) → List (Option Joiner) → List (Option Joiner)
ready None js = all_restarted js
ready (Some s) js = js

-- the snapshot that is given: the one before, or else one that is taken of the stage, if memory is
-- there and the stage isn't spoiled
abbrev pub IsRenewed : (mark : List ℕ) → StageView → (before after : Option ShotView) → Type 0
IsRenewed mark stage (Some s) after = after ≡ Some s
IsRenewed mark stage None after = IfSome after (IsTaken mark stage)

-- what is sent to these
abbrev pub given_of : (mark : List ℕ) → Option ShotView → List (Option Joiner) → List Traffic
given_of mark None js = []
given_of mark (Some s) js = given mark s js

abbrev pub advanced_in : Option ShotView → List (Option Joiner) → List (Option Joiner)
advanced_in None js = js
advanced_in (Some s) js = all_advanced (pieces_in s.bytes) js

-- these get their next pieces, or the first of those if a send fails
pub record IsGiven (mark : List ℕ) (stage : StageView) (whole : Bool)
    (js after : List (Option Joiner)) (shot_before shot : Option ShotView)
    (told_before told_after : Option (List Traffic)) : Type 0 where
  pub renewed : IsRenewed mark stage shot_before shot
  pub joiners : after ≡ advanced_in shot (ready shot_before js)
  pub sent : IsSentInTurn whole told_before told_after (given_of mark shot (ready shot_before js))

-- no viewer joins: there is no snapshot, and nothing is sent
pub record IsQuiet (js after : List (Option Joiner)) (shot : Option ShotView)
    (told_before told_after : Option (List Traffic)) : Type 0 where
  pub dropped : shot ≡ None
  pub joiners : after ≡ js
  pub told : told_after ≡ told_before

abbrev pub IsRestOf : (some : Bool) → (mark : List ℕ) → StageView → (whole : Bool)
    → (js after : List (Option Joiner)) → (shot_before shot : Option ShotView)
    → (told_before told_after : Option (List Traffic)) → Type 0
IsRestOf true mark stage whole js after before shot a b =
    IsGiven mark stage whole js after before shot a b
IsRestOf false mark stage whole js after before shot a b =
    (whole ≡ true) × IsQuiet js after shot a b

-- a rest of these milliseconds; `whole` says that no send failed
abbrev pub IsRest : (mark : List ℕ) → StageView → (millis : ℕ) → (whole : Bool)
    → (js after : List (Option Joiner)) → (shot_before shot : Option ShotView)
    → (told_before told_after : Option (List Traffic)) → Type 0
IsRest mark stage millis whole js after before shot a b =
    IsRestOf (are_some (passed millis js)) mark stage whole (passed millis js) after before shot a b

abbrev pub lost_after : (whole : Bool) → ℕ → ℕ
lost_after whole lost = if whole then lost else one_more lost
