-- What the keys of a world have, and what etcd promises of them.
use Rattle.std.specs.Prelude.{◌≡◌, ℕ, ◌+◌, ◌++◌, ◌≤◌, List, [], ◌∷◌, length, Option, None, Some, Ok}
use Rattle.share_entries.specs.declared.head.Head.{Head}
use Rattle.share_entries.specs.declared.start.Start.{Start}
use Rattle.share_entries.specs.Base.{BaseView, base_in}
use Rattle.share_entries.specs.Chain.{chain_after}
use Rattle.share_entries.specs.Entry.{EntryView}
use Rattle.share_entries.specs.Frame.{frame_in, frame_text}
use Rattle.share_entries.specs.Head.{head_text}
use Rattle.share_entries.specs.Start.{start_of}
use Rattle.share_store.specs.OneLog.{Begins}
use Rattle.share_etcd.specs.declared.outcome.Outcome.{Outcome}
use Rattle.share_etcd.specs.declared.outcome.Outcome.TheVariants.{Stored, Malformed}
use Rattle.share_etcd.specs.Answers.{document, outcome_of}
use Rattle.share_etcd.specs.Contents.{ContentsView, OpeningView, BasedView, contents_of, opening_of}
use Rattle.share_etcd.specs.Requests.{making_text, append_text, basing_text, reading_text, opening_text}
use Rattle.share_engine.specs.Exchanges.{Exchange}
use Rattle.share_engine.specs.Reading.{entries_from}

-- what the keys of a world have at a moment: the revisions at which head and tail were last
-- changed, and all entries that frames were put with, also those that a base stands for now
pub record Held : Type 0 where
  pub head_revision : ℕ
  pub tail_revision : ℕ
  pub entries : List EntryView

abbrev pub held : (head_revision tail_revision : ℕ) → List EntryView → Held
held head_revision tail_revision entries =
    record { head_revision = head_revision; tail_revision = tail_revision; entries = entries }

-- a later moment: entries were added, at a higher revision of the tail, or none were
pub record Later (a b : Held) : Type 0 where
  pub grows : Begins a.entries b.entries
  pub rises : a.tail_revision ≤ b.tail_revision
  pub same : b.tail_revision ≡ a.tail_revision → b.entries ≡ a.entries

-- Before a world is made its keys have nothing. Once it is made, it stays.
abbrev pub Moves : (before after : Option Held) → Type 0
Moves None after = Unit {0}
Moves (Some a) None = ⊥
Moves (Some a) (Some b) = Later a b

-- the keys have these entries first, or nothing
abbrev pub Has : List EntryView → Option Held → Type 0
Has entries None = Unit {0}
Has entries (Some now) = Begins entries now.entries

-- the entries below the start of a log of this run
pub record IsBelow (run : List ℕ) (start : Start) (below : List EntryView) : Type 0 where
  pub number : length below ≡ start.below
  pub chain : chain_after run below ≡ start.chain

-- the keys have these entries first from the start on, or nothing
abbrev pub HasFrom : (run : List ℕ) (start : Start) → List EntryView → Option Held → Type 0
HasFrom run start entries now =
    (below : List EntryView) × IsBelow run start below × Has (below ++ entries) now

-- ---- what answers say

abbrev pub outcome_in : Option (List ℕ) → Outcome
outcome_in None = Malformed
outcome_in (Some body) = outcome_of (document body)

abbrev pub contents_in : (world : List ℕ) (first : ℕ) → Option (List ℕ)
    → Option (Option ContentsView)
contents_in world first None = None
contents_in world first (Some body) = contents_of world first (document body)

abbrev pub opening_in : (world : List ℕ) → Option (List ℕ) → Option (Option OpeningView)
opening_in world None = None
opening_in world (Some body) = opening_of world (document body)

-- ---- etcd's promise

-- an append of these entries was stored at this revision
pub record Appended (head tail revision : ℕ) (entries : List EntryView) (at left : Option Held)
    : Type 0 where
  pub had : Held
  pub was : at ≡ Some had
  pub head_same : had.head_revision ≡ head
  pub tail_same : had.tail_revision ≡ tail
  pub leaves : left ≡ Some (held head revision (had.entries ++ entries))

-- a base was stored at this revision: of entries none came, and none is lost
pub record Based (head tail revision : ℕ) (at left : Option Held) : Type 0 where
  pub had : Held
  pub was : at ≡ Some had
  pub head_same : had.head_revision ≡ head
  pub tail_same : had.tail_revision ≡ tail
  pub leaves : left ≡ Some (held revision tail had.entries)

-- a reading from this number on found this, in a world of this run that had this
pub record IsRead (run : List ℕ) (first : ℕ) (c : ContentsView) (had : Held) : Type 0 where
  pub head_same : had.head_revision ≡ c.head_revision
  pub tail_same : had.tail_revision ≡ c.tail_revision
  pub all : length had.entries ≡ c.tail
  -- frames that are next after the entries before this number are of the entries after these
  pub frames : (start : Start) (below known more : List EntryView) → IsBelow run start below
      → Begins (below ++ known) had.entries → start.below + length known + 1 ≡ first
      → entries_from start known c.frames ≡ Some more → Begins (below ++ more) had.entries

-- an opening found this: a reading from any number on, and the base is one of first entries
pub record IsOpened (run : List ℕ) (o : OpeningView) (had : Held) : Type 0 where
  pub read : (first : ℕ) → IsRead run first o.contents had
  pub based : (b : BasedView) (base : BaseView) (head : Head) → o.based ≡ Some b
      → base_in b.base ≡ Some base
      → (below : List EntryView) × IsBelow run (start_of head (Some base)) below
      × Begins below had.entries

-- The exchange was carried out when the keys of the world had `at`, and left them with `left`. All
-- hosts write to them by the requests of share_etcd alone, and put only bases of the entries there.
-- If no answer came, the request may have been carried out or not.
pub record Done (world run : List ℕ) (x : Exchange) (at left : Option Held) : Type 0 where
  pub moves : Moves at left
  pub made : (head : Head) (revision : ℕ) → x.asked ≡ making_text world (head_text head)
      → outcome_in x.answer ≡ Stored revision
      → (at ≡ None) × (left ≡ Some (held revision revision []))
  -- of entries that are read from their frame again: those in their ranges
  pub appended : (head tail first last : ℕ) (chain : List ℕ) (entries : List EntryView)
      (revision : ℕ)
      → frame_in chain first (frame_text chain first entries) ≡ Ok entries
      → x.asked ≡ append_text world head tail first last (frame_text chain first entries)
      → outcome_in x.answer ≡ Stored revision
      → Appended head tail revision entries at left
  pub based : (head tail number : ℕ) (bytes base snapshot : List ℕ) (revision : ℕ)
      → x.asked ≡ basing_text world head tail number bytes base snapshot
      → outcome_in x.answer ≡ Stored revision → Based head tail revision at left
  pub read : (first : ℕ) (c : ContentsView) → x.asked ≡ reading_text world first
      → contents_in world first x.answer ≡ Some (Some c)
      → (had : Held) × (at ≡ Some had) × (left ≡ Some had) × IsRead run first c had
  pub opened : (o : OpeningView) → x.asked ≡ opening_text world
      → opening_in world x.answer ≡ Some (Some o)
      → (had : Held) × (at ≡ Some had) × (left ≡ Some had) × IsOpened run o had

-- ---- what keys may have

-- `new` is what the keys may have after these exchanges, and at any time after them, if they had
-- `old` before
abbrev pub MayHave : (world run : List ℕ) → List Exchange → (old new : Option Held) → Type 0
MayHave world run [] old new = Moves old new
MayHave world run (x ∷ xs) old new =
    (at : Option Held) × (left : Option Held) × Moves old at × Done world run x at left
    × MayHave world run xs left new

-- this holds of whatever the keys may have after the exchanges, if they are recorded
abbrev pub Always : (world run : List ℕ) → Option (List Exchange) → (Option Held → Type 0) → Type 0
Always world run None P = Unit {0}
Always world run (Some xs) P = (now : Option Held) → MayHave world run xs None now → P now

-- the keys have this from the start on, or later what these became
abbrev pub KeptAt : (run : List ℕ) (start : Start) (known : Held) → Option Held → Type 0
KeptAt run start known now =
    (below : List EntryView) × IsBelow run start below
    × Moves (Some (held known.head_revision known.tail_revision (below ++ known.entries))) now

-- what the keys may have is this from the start on, or later
abbrev pub IsKept : (world run : List ℕ) (start : Start) → Option (List Exchange) → Held → Type 0
IsKept world run start told known = Always world run told (KeptAt run start known)

-- the keys had these entries first from the start on when this was read, and now have the same, or
-- are later
abbrev pub AfterReading : (run : List ℕ) (start : Start) (first : ℕ) → ContentsView
    → List EntryView → Option Held → Type 0
AfterReading run start first c known now =
    (had : Held) × (below : List EntryView) × IsRead run first c had × IsBelow run start below
    × Begins (below ++ known) had.entries × Moves (Some had) now

-- the keys had this when it was opened, and now have the same, or are later
abbrev pub AfterOpening : (run : List ℕ) → OpeningView → Option Held → Type 0
AfterOpening run o now = (had : Held) × IsOpened run o had × Moves (Some had) now

-- entries from the start on that a world may have after the exchanges; nothing is said if they
-- aren't recorded
abbrev pub MayLeave : (world run : List ℕ) (start : Start) → Option (List Exchange)
    → List EntryView → Type 0
MayLeave world run start None entries = ⊥
MayLeave world run start (Some xs) entries =
    (now : Held) × MayHave world run xs None (Some now)
    × (below : List EntryView) × IsBelow run start below × (now.entries ≡ below ++ entries)
