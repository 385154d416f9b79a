-- Files that the making of a log may leave, if it is cut off.
use Rattle.std.specs.Prelude.{◌≡◌, ◌⊎◌, ℕ, ◌≤◌, ◌||◌, ◌&&◌, ◌==◌, nat_le, Bool, IsTrue, List, length, slice_index}
use Rattle.share_entries.specs.declared.head.Head.{Head}
use Rattle.share_log.specs.Frames.{frames_of}
use Rattle.share_file.specs.Keeping.{IsNew}

-- a head's frame of 64 bytes, with its gate, its length, and the gate after it
abbrev pub made_size : ℕ
made_size = 68

-- There is no log in the file, and nothing of another program: it has at most one byte, or a gate
-- that was written as shut and after it at most the rest of a head. No entry was ever stored in it.
abbrev pub is_unmade : (file : List ℕ) → Bool
is_unmade file =
    nat_le (length file) 1 || ((slice_index file 0 == 0) && nat_le (length file) made_size)

-- it begins with a gate that was written as shut, and is no longer than a head's file
abbrev pub IsGated : (file : List ℕ) → Type 0
IsGated file = (1 ≤ length file) × (slice_index file 0 ≡ 0) × (length file ≤ made_size)

-- there is no log in the file yet, or the log of this head without entries
abbrev pub IsBegun : Head → (file : List ℕ) → Type 0
IsBegun head file = IsTrue (is_unmade file) ⊎ IsNew head (frames_of file)

-- Each content was left before, or a log is begun in it. The gate of the head is one byte, written
-- as 0 and then as 1; this speaks of no disk that makes a third number of these two.
abbrev pub BeginsOrWas : Head → (before now : List ℕ → Type 0) → Type 0
BeginsOrWas head before now =
    (c : List ℕ) → now c → before c ⊎ (slice_index c 0 ≤ 1 → IsBegun head c)
