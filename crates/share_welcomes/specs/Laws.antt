-- What a port sends is of the log whose entries it learns, whatever it has dropped.
use Rattle.std.specs.Prelude.{◌≡◌, ◌≤◌, ℕ, List, [], ◌++◌, IfSome, length, take, ⊤}
use Rattle.share_entries.specs.Base.{BaseView}
use Rattle.share_entries.specs.Entry.{EntryView}
use Rattle.share_entries.specs.Chain.{chain_after}
use Rattle.share_logged.specs.Bases.{IsBaseOf}
use Rattle.share_session.specs.Follows.{IsOfLog}
use Rattle.share_session.specs.declared.message.Body2.{Body2}
use Rattle.share_session.specs.declared.message.Body2.TheVariants.{Input, Offer, Ask, Ack, Floor, Piece}
use Rattle.share_session.specs.declared.message.Message2.{Message2}
use Rattle.share_session.specs.declared.message.Message2.TheVariants.{Said, Hello, Welcome}
use Rattle.share_welcomes.specs.declared.host_run.HostRun.{HostRun}
use Rattle.share_welcomes.specs.Answers.{in_two}
use Rattle.share_welcomes.specs.Learned.{LearnedView, base_learned, boots_after, dropped_below, learned_more, no_boots, none_learned}

-- what a port knows of the log of its run with these entries; `old` are those that it dropped
pub record IsLearnedOf (log : List EntryView) (l : LearnedView) : Type 0 where
  pub old : List EntryView
  pub split : log ≡ old ++ l.entries
  pub many : length old ≡ l.dropped
  pub chain : l.before ≡ chain_after l.run old
  pub boots : l.boots ≡ boots_after no_boots log

-- ---- it stays that

abbrev pub BeginsOfLog : Type 0
BeginsOfLog = (run : List ℕ) → IsLearnedOf [] (none_learned run)

-- a port that begins with the base of entries of its run's log
abbrev pub BaseIsOfLog : Type 0
BaseIsOfLog =
    (run : List ℕ) (viewers : ℕ) (below : List EntryView) (base : BaseView)
    → IsBaseOf run viewers below base → IsLearnedOf below (base_learned run base)

abbrev pub LearnsOfLog : Type 0
LearnsOfLog =
    (log es : List EntryView) (l : LearnedView) → IsLearnedOf log l
    → IsLearnedOf (log ++ es) (learned_more l es)

abbrev pub DropsOfLog : Type 0
DropsOfLog =
    (log : List EntryView) (l : LearnedView) (floor : ℕ) → IsLearnedOf log l
    → IsLearnedOf log (dropped_below floor l)

-- ---- and what is sent is of that log

-- the chain of the log after its first n entries
abbrev pub IsChainAt : (run : List ℕ) → (log : List EntryView) → (n : ℕ) → List ℕ → Type 0
IsChainAt run log n chain = (n ≤ length log) × (chain ≡ chain_after run (take n log))

-- an input is that of the log, and a piece has the chain of the log after its snapshot's inputs
abbrev pub IsBodyOfLog : (run : List ℕ) → (log : List EntryView) → Body2 → Type 0
IsBodyOfLog run log (Input i) = IsOfLog run log i
IsBodyOfLog run log (Offer o) = ⊤
IsBodyOfLog run log (Ask a) = ⊤
IsBodyOfLog run log (Ack a) = ⊤
IsBodyOfLog run log (Floor n) = ⊤
IsBodyOfLog run log (Piece p) = IsChainAt run log p.head.applied p.head.chain

abbrev pub IsSaidOfLog : (run : List ℕ) → (log : List EntryView) → Message2 → Type 0
IsSaidOfLog run log (Said session body) = IsBodyOfLog run log body
IsSaidOfLog run log (Hello h) = ⊤
IsSaidOfLog run log (Welcome w) = ⊤

abbrev pub SendsOfLog : Type 0
SendsOfLog =
    (log : List EntryView) (l : LearnedView) → IsLearnedOf log l → (r : HostRun)
    → (bytes : List ℕ) → IfSome (in_two r l bytes) (IsSaidOfLog l.run log)
