-- Entries that are read frame by frame.
use Rattle.std.specs.Prelude.{ℕ, ◌+◌, ◌-◌, ◌++◌, ◌==◌, ◌&&◌, Bool, List, [], ◌∷◌, drop, length, nat_eq, nat_le, take, Option, None, Some, Result, Ok, Err, if◌then◌else◌}
use Rattle.share_entries.specs.declared.frame.FrameFault.{FrameFault}
use Rattle.share_entries.specs.declared.start.Start.{Start}
use Rattle.std.specs.Cmp.Lexicographic.{pointwise}
use Rattle.share_entries.specs.Base.{BaseView}
use Rattle.share_entries.specs.Entry.{EntryView}
use Rattle.share_entries.specs.Chain.{chain_after}
use Rattle.share_entries.specs.Frame.{frame_in}
use Rattle.share_etcd.specs.Contents.{FrameView}

-- entries of a log from where it starts on
pub record KnownView : Type 0 where
  pub start : Start
  pub entries : List EntryView

abbrev pub or_none : Result (List EntryView) FrameFault → Option (List EntryView)
or_none (Ok entries) = Some entries
or_none (Err fault) = None

-- what a frame adds to a log that has these entries, if it is the next
abbrev pub next_in : (start : Start) (known : List EntryView) → FrameView → Option (List EntryView)
next_in start known frame =
    if frame.first == start.below + length known + 1
    then or_none (frame_in (chain_after start.chain known) (start.below + length known + 1) frame.bytes)
    else None

-- the known entries and those of the frames after them, if each of these is the next
abbrev pub entries_from : (start : Start) (known : List EntryView) → List FrameView
    → Option (List EntryView)
entries_from start known [] = Some known
entries_from start known (frame ∷ frames) =
    elim (next_in start known frame) [
      | Some more ↦ entries_from start (known ++ more) frames
      | None ↦ None
    ]

-- ---- bases

-- a base is of the place after this many entries, with this chain
abbrev pub is_place_of : BaseView → (number : ℕ) (chain : List ℕ) → Bool
is_place_of base number chain = base.number == number && pointwise nat_eq base.chain chain

-- how many of the known entries have numbers up to this one; none, if not all these are known
abbrev pub count_to : (number : ℕ) → KnownView → ℕ
count_to number k =
    if nat_le number (k.start.below + length k.entries) then number - k.start.below else 0

-- what is known, without the first entries
abbrev pub without : (count : ℕ) → KnownView → KnownView
without count k = record {
  start = record {
    below = k.start.below + count;
    chain = chain_after k.start.chain (take count k.entries);
  };
  entries = drop count k.entries;
}
