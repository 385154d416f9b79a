-- The head of a log: its first payload (our choice).
use Rattle.std.specs.Prelude.{ℕ, ◌++◌, ◌&&◌, ◌==◌, Bool, List, [], ◌∷◌, length, take, Option, None, Some, Result, Ok, Err, if◌then◌else◌, codes, nat_eq, nat_le}
use Rattle.std.specs.Cmp.Lexicographic.{pointwise}
use Rattle.sha2.specs.Sha256.{sha256}
use Rattle.byte_codec.specs.Codec.{Codec, pair, byte, fixed}
use Rattle.x3d_values.specs.Ranges.{max_viewers}
use Rattle.share_entries.specs.declared.head.Head.{Head}
use Rattle.share_entries.specs.declared.head.HeadFault.{HeadFault}
use Rattle.share_entries.specs.declared.head.HeadFault.TheVariants.{Short, BadMagic, BadVersion, BadSum, BadViewers}

-- magic, version, viewers, two bytes, mark, run
abbrev pub HeadParts : Type 0
HeadParts = List ℕ × (ℕ × (ℕ × (List ℕ × (List ℕ × List ℕ))))

unfoldable pub head_fields : Codec HeadParts
head_fields =
    pair (fixed 4) (pair byte (pair byte (pair (fixed 2) (pair (fixed 32) (fixed 16)))))

-- X3DL, version 1, the viewers, two zeros, the mark, the run
abbrev pub parts_of : Head → HeadParts
parts_of h = (codes "X3DL", (1, (h.viewers, (0 ∷ 0 ∷ [], (h.mark, h.run)))))

-- the first 8 bytes of the SHA-256
abbrev pub sum_of : List ℕ → List ℕ
sum_of bytes = take 8 (sha256 bytes)

-- the parts and their sum: 56 bytes and 8
abbrev pub head_text : Head → List ℕ
head_text h = head_fields.write (parts_of h) ++ sum_of (head_fields.write (parts_of h))

-- a world has 1 to 64 viewers
abbrev pub is_viewer_count : ℕ → Bool
is_viewer_count n = nat_le 1 n && nat_le n max_viewers

-- ---- reading

-- the viewers are in their range, and the two bytes after them are 0
abbrev pub has_viewers : HeadParts → Bool
has_viewers p = is_viewer_count p.1.1.0 && pointwise nat_eq p.1.1.1.0 (0 ∷ 0 ∷ [])

abbrev pub head_with : HeadParts → Head
head_with p = record { viewers = p.1.1.0; mark = p.1.1.1.1.0; run = p.1.1.1.1.1 }

-- the head of parts that were read, and of the bytes after them, which are the sum
abbrev pub head_of : List ℕ → Option (HeadParts × List ℕ) → Result Head HeadFault
head_of bytes None = Err Short
head_of bytes (Some x) =
    if pointwise nat_eq x.0.0 (codes "X3DL") then
    (if x.0.1.0 == 1 then
    (if pointwise nat_eq x.1 (sum_of (take 56 bytes)) then
    (if has_viewers x.0 then Ok (head_with x.0) else Err BadViewers)
    else Err BadSum)
    else Err BadVersion)
    else Err BadMagic

unfoldable pub head_in : List ℕ → Result Head HeadFault
head_in bytes = head_of bytes (head_fields.read bytes)

abbrev pub head_fits : Head → Bool
head_fits h = (is_viewer_count h.viewers && (length h.mark == 32)) && (length h.run == 16)
