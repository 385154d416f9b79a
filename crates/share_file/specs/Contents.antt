-- What opening a file finds: a log, or the first fault.
use Rattle.std.specs.Prelude.{◌≡◌, ◌⊎◌, ℕ, ◌+◌, ◌-◌, ◌*◌, ◌&&◌, ◌==◌, Bool, true, false, not, nat_eq, nat_lt, List, [], ◌∷◌, length, take, drop, slice_index, Option, None, Some, Result, Ok, Err, is_ok, if◌then◌else◌}
use Rattle.std.specs.Cmp.Lexicographic.{pointwise}
use Rattle.share_entries.specs.declared.head.Head.{Head}
use Rattle.share_entries.specs.declared.head.HeadFault.TheVariants.{Short}
use Rattle.share_entries.specs.Entry.{EntryView}
use Rattle.share_entries.specs.Chain.{chain_after}
use Rattle.share_entries.specs.Frame.{frame_in}
use Rattle.share_entries.specs.Head.{head_in}
use Rattle.share_entries.specs.Base.{BaseView}
use Rattle.share_log.specs.Frames.{frames_of, size_of}
use Rattle.share_file.specs.declared.fault.OpenFault.{OpenFault}
use Rattle.share_file.specs.declared.fault.OpenFault.TheVariants.{Device, Memory, BadHead, WrongScene, WrongSeats, LogDamaged}
use Rattle.share_file.specs.declared.contents.Expected.{Expected}
use Rattle.share_file.specs.declared.contents.Contents.{Contents}
use Rattle.share_entries.specs.declared.start.Start.{Start}
use Rattle.share_entries.specs.Start.{start_of}
use Rattle.share_file.specs.Entries.{base_among, behind_base, entries_from, first_number}

-- a log, and the number of bytes after its last gate, which are cut
pub record FileView : Type 0 where
  pub head : Head
  pub base : Option BaseView
  pub entries : List EntryView
  pub cut : ℕ

abbrev pub view_of : Contents → FileView
view_of x = record {
  head = x.head;
  base = x.base;
  entries = x.known.entries.items;
  cut = x.cut;
}

-- ---- the end of the file: the bytes from the gate after the frames on

-- the gate is there, and it is shut
abbrev pub begins_shut : List ℕ → Bool
begins_shut [] = false
begins_shut (gate ∷ rest) = not (gate == 1)

-- the payload of n bytes is whole, it is the next frame of the log, and after it a gate is open
abbrev pub is_next : (chain : List ℕ) (first n : ℕ) → List ℕ → Bool
is_next chain first n behind =
    (nat_lt n (length behind) && (slice_index behind n == 1)) && is_ok (frame_in chain first
    (take n behind))

-- after the gate: a frame that was once a part of the log, since another gate is open after it
abbrev pub hides_frame : (chain : List ℕ) (first : ℕ) → List ℕ → Bool
hides_frame chain first [] = false
hides_frame chain first (gate ∷ []) = false
hides_frame chain first (gate ∷ high ∷ []) = false
hides_frame chain first (gate ∷ high ∷ low ∷ behind) = is_next chain first (256 * high + low) behind

-- ---- opening

-- any number of viewers, or exactly this one
abbrev pub has_seats : Option ℕ → (viewers : ℕ) → Bool
has_seats None viewers = true
has_seats (Some expected) viewers = expected == viewers

-- the log ends as an append leaves it
abbrev pub ends_well : Start → List EntryView → (tail : List ℕ) → Bool
ends_well start entries tail =
    begins_shut tail && not (hides_frame (chain_after start.chain entries)
    (start.below + length entries + 1) tail)

-- the log of these entries, if it ends well; else its next frame, of this number, is damaged
abbrev pub ended : Head → Option BaseView → (number : ℕ) (tail : List ℕ)
    → Result (List EntryView) ℕ → Result FileView OpenFault
ended head base number tail (Err damaged) = Err (LogDamaged damaged)
ended head base number tail (Ok entries) =
    if ends_well (start_of head base) entries tail
    then Ok (record { head = head; base = base; entries = entries; cut = length tail - 1 })
    else Err (LogDamaged number)

-- the log of this head, of this base, and of the frames after the head
abbrev pub based : Head → (frames : List (List ℕ)) (tail : List ℕ) → Result (Option BaseView) ℕ
    → Result FileView OpenFault
based head frames tail (Err damaged) = Err (LogDamaged damaged)
based head frames tail (Ok base) =
    ended head base (length frames + 1) tail
    (entries_from (start_of head base) [] (first_number frames) (behind_base frames))

-- the log of this head and of the frames after it
abbrev pub headed : Expected → (frames : List (List ℕ)) (tail : List ℕ) → Head
    → Result FileView OpenFault
headed expected frames tail head =
    if pointwise nat_eq head.mark expected.mark then
    (if has_seats expected.viewers head.viewers
    then based head frames tail (base_among head frames)
    else Err WrongSeats)
    else Err WrongScene

-- the log of these frames
abbrev pub contents_in : Expected → (frames : List (List ℕ)) (tail : List ℕ)
    → Result FileView OpenFault
contents_in expected [] tail = Err (BadHead Short)
contents_in expected (payload ∷ frames) tail =
    elim (head_in payload) [
      | Ok head ↦ headed expected frames tail head
      | Err fault ↦ Err (BadHead fault)
    ]

-- the log of a file
unfoldable pub contents_of : Expected → (file : List ℕ) → Result FileView OpenFault
contents_of expected file =
    contents_in expected (frames_of file) (drop (size_of (frames_of file)) file)

-- this log was found, or this fault, unless memory was refused
abbrev pub IsFound : Result FileView OpenFault → Result Contents OpenFault → Type 0
IsFound answer (Ok x) = answer ≡ Ok (view_of x)
IsFound answer (Err fault) = (fault ≡ Memory) ⊎ (answer ≡ Err fault)

-- the device failed, memory was refused, or this is the fault that opening finds
abbrev pub Refuses : Result FileView OpenFault → OpenFault → Type 0
Refuses answer fault = (fault ≡ Device) ⊎ ((fault ≡ Memory) ⊎ (answer ≡ Err fault))
