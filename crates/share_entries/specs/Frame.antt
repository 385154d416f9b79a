-- A frame of entries: the payload that a log keeps of entries that were appended together (our
-- choice).
use Rattle.std.specs.Prelude.{ℕ, ◌^◌, ◌++◌, ◌&&◌, ◌==◌, Bool, List, length, Option, None, Some, Result, Ok, Err, if◌then◌else◌, nat_eq, nat_lt}
use Rattle.std.specs.Int.{w16, w64}
use Rattle.std.specs.List.{flat_map}
use Rattle.std.specs.Cmp.Lexicographic.{pointwise}
use Rattle.byte_codec.specs.Codec.{Codec, pair, byte, number, many_at, all_fit}
use Rattle.share_entries.specs.declared.frame.FrameFault.{FrameFault}
use Rattle.share_entries.specs.declared.frame.FrameFault.TheVariants.{Short, BadKind, BadNumber, BadEntry, BadChain}
use Rattle.share_entries.specs.Entry.{EntryView, entry_codec}
use Rattle.share_entries.specs.Chain.{chain_after}

-- the kind, the number of entries, the number of the first
unfoldable pub front_codec : Codec (ℕ × (ℕ × ℕ))
front_codec = pair byte (pair (number w16) (number w64))

-- the payload of these entries, of which the first has this number, after a log with this chain
abbrev pub frame_text : (before : List ℕ) (first : ℕ) → List EntryView → List ℕ
frame_text before first entries =
    front_codec.write (0, (length entries, first))
    ++ flat_map entry_codec.write entries ++ chain_after before entries

-- counts have 16 bits, numbers 64
abbrev pub frame_fits : (first : ℕ) → List EntryView → Bool
frame_fits first entries =
    (nat_lt (length entries) (2 ^ 16) && nat_lt first (2 ^ 64)) && all_fit entry_codec entries

-- ---- reading

-- the entries that were read, if nothing but the chain after them follows
abbrev pub entries_of : List ℕ → Option (List EntryView × List ℕ)
    → Result (List EntryView) FrameFault
entries_of before None = Err BadEntry
entries_of before (Some x) =
    if pointwise nat_eq x.1 (chain_after before x.0) then Ok x.0 else Err BadChain

-- the entries after a front that was read
abbrev pub framed : List ℕ → ℕ → Option ((ℕ × (ℕ × ℕ)) × List ℕ)
    → Result (List EntryView) FrameFault
framed before first None = Err Short
framed before first (Some x) =
    if x.0.0 == 0 then
    (if x.0.1.1 == first then entries_of before (many_at entry_codec x.0.1.0 x.1)
    else Err BadNumber)
    else Err BadKind

-- the entries of a payload that is the next of a log with this chain, or the first fault
unfoldable pub frame_in : (before : List ℕ) (first : ℕ) → List ℕ
    → Result (List EntryView) FrameFault
frame_in before first bytes = framed before first (front_codec.read bytes)
