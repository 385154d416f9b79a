-- The head, the base and the entries of a log's frames.
use Rattle.std.specs.Prelude.{ℕ, suc, ◌+◌, ◌++◌, ◌==◌, List, [], ◌∷◌, length, Option, None, Some, Result, Ok, Err, if◌then◌else◌}
use Rattle.share_entries.specs.declared.head.Head.{Head}
use Rattle.share_entries.specs.declared.head.HeadFault.{HeadFault}
use Rattle.share_entries.specs.declared.head.HeadFault.TheVariants.{Short}
use Rattle.share_entries.specs.declared.frame.FrameFault.{FrameFault}
use Rattle.share_entries.specs.Entry.{EntryView}
use Rattle.share_entries.specs.Chain.{chain_after}
use Rattle.share_entries.specs.Frame.{frame_in}
use Rattle.share_entries.specs.Head.{head_in}
use Rattle.share_entries.specs.Base.{BaseView, base_in, begins_base}
use Rattle.share_entries.specs.declared.start.Start.{Start}
use Rattle.share_entries.specs.Start.{start_of}
use Rattle.share_log.specs.Frames.{frames_of}

-- ---- where the entries begin

-- the head is frame 0
abbrev pub head_among : List (List ℕ) → Result Head HeadFault
head_among [] = Err Short
head_among (payload ∷ frames) = head_in payload

-- a base keeps something of each viewer of the head
abbrev pub seated : Head → Option BaseView → Result (Option BaseView) ℕ
seated head None = Err 1
seated head (Some base) = if length base.kept == head.viewers then Ok (Some base) else Err 1

-- The base of the frames after the head, if there is one; else the number of the frame that is
-- damaged.
abbrev pub base_among : Head → List (List ℕ) → Result (Option BaseView) ℕ
base_among head [] = Ok None
base_among head (payload ∷ frames) =
    if begins_base payload then seated head (base_in payload) else Ok None

-- the frames of entries, of those after the head
abbrev pub behind_base : List (List ℕ) → List (List ℕ)
behind_base [] = []
behind_base (payload ∷ frames) = if begins_base payload then frames else payload ∷ frames

-- the number of the first of them, counted from the head
abbrev pub first_number : List (List ℕ) → ℕ
first_number [] = 1
first_number (payload ∷ frames) = if begins_base payload then 2 else 1

abbrev pub start_by : Head → Result (Option BaseView) ℕ → Result Start ℕ
start_by head (Ok base) = Ok (start_of head base)
start_by head (Err damaged) = Err damaged

-- where the entries of these frames begin
abbrev pub start_among : List (List ℕ) → Result Start ℕ
start_among [] = Err 0
start_among (payload ∷ frames) =
    elim (head_in payload) [
      | Ok head ↦ start_by head (base_among head frames)
      | Err fault ↦ Err 0
    ]

-- ---- the entries

-- what a frame adds to a log that has these entries
abbrev pub next_in : (start : Start) (known : List EntryView) → List ℕ
    → Result (List EntryView) FrameFault
next_in start known frame =
    frame_in (chain_after start.chain known) (start.below + length known + 1) frame

-- the known entries, and those of the frames after them, of which the first has this number; or the
-- number of the first frame that isn't the next of the log
abbrev pub entries_from : (start : Start) (known : List EntryView) (number : ℕ) → List (List ℕ)
    → Result (List EntryView) ℕ
entries_from start known number [] = Ok known
entries_from start known number (frame ∷ frames) =
    elim (next_in start known frame) [
      | Ok more ↦ entries_from start (known ++ more) (suc number) frames
      | Err fault ↦ Err number
    ]

-- the entries of all frames of a log that begins here: those after the head and the base
abbrev pub entries_among : (start : Start) → List (List ℕ) → Result (List EntryView) ℕ
entries_among start [] = Err 0
entries_among start (head ∷ frames) =
    entries_from start [] (first_number frames) (behind_base frames)

abbrev pub or_none : Result (List EntryView) ℕ → List EntryView
or_none (Ok entries) = entries
or_none (Err number) = []

-- the entries that a file has; none if it isn't a log that begins here
abbrev pub entries_in : (start : Start) → (file : List ℕ) → List EntryView
entries_in start file = or_none (entries_among start (frames_of file))
