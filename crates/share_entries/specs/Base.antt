-- The base of a log: the payload that stands for the entries below it (our choice). A host goes on
-- from a base as from those entries, and the snapshot that it names has the world that they make.
use Rattle.std.specs.Prelude.{ℕ, ℤ, ◌-◌, ◌++◌, ◌&&◌, ◌==◌, Bool, false, List, [], ◌∷◌, length, take, Option, None, Some, if◌then◌else◌, nat_eq, nat_le}
use Rattle.std.specs.Int.{w32, w64}
use Rattle.std.specs.Cmp.Lexicographic.{pointwise}
use Rattle.byte_codec.specs.Codec.{Codec, byte, depends, fixed, named, number, pair, times}
use Rattle.x3d_values.specs.Ranges.{max_inputs}
use Rattle.share_rules.specs.declared.kept.SeatCount.{SeatCount}
use Rattle.share_entries.specs.Entry.{time_codec}
use Rattle.share_entries.specs.Head.{is_viewer_count, sum_of}

-- what a host keeps of each viewer, the number and the time of the last entry below, the chain
-- after that entry, and the SHA-256 of a snapshot of the world there
pub record BaseView : Type 0 where
  pub kept : List SeatCount
  pub number : ℕ
  pub time : ℤ
  pub chain : List ℕ
  pub snapshot : List ℕ

-- boot, count
unfoldable pub seat_codec : Codec SeatCount
seat_codec = named
    (λ t. record { boot = t.0; count = t.1 })
    (λ k. (k.boot, k.count))
    (pair (number w32) (number w32))

-- kind, viewers, what is kept of each, number, time, chain, snapshot
abbrev pub BaseParts : Type 0
BaseParts = ℕ × ((ℕ × List SeatCount) × (ℕ × (ℤ × (List ℕ × List ℕ))))

unfoldable pub base_fields : Codec BaseParts
base_fields =
    pair byte (pair (depends byte (λ n. times n seat_codec))
    (pair (number w64) (pair time_codec (pair (fixed 16) (fixed 32)))))

-- the kind is 1
abbrev pub parts_of : BaseView → BaseParts
parts_of b = (1, ((length b.kept, b.kept), (b.number, (b.time, (b.chain, b.snapshot)))))

-- the parts, and the first 8 bytes of their SHA-256
abbrev pub base_text : BaseView → List ℕ
base_text b = base_fields.write (parts_of b) ++ sum_of (base_fields.write (parts_of b))

-- a base is of at least one entry, and a world has at most max_inputs
abbrev pub is_base_number : ℕ → Bool
is_base_number n = nat_le 1 n && nat_le n max_inputs

-- the kind is 1, and the numbers are in their ranges
abbrev pub in_ranges : BaseParts → Bool
in_ranges p = (p.0 == 1 && is_viewer_count p.1.0.0) && is_base_number p.1.1.0

abbrev pub base_fits : BaseView → Bool
base_fits b = base_fields.fits (parts_of b) && in_ranges (parts_of b)

-- ---- reading

abbrev pub base_with : BaseParts → BaseView
base_with p = record {
  kept = p.1.0.1;
  number = p.1.1.0;
  time = p.1.1.1.0;
  chain = p.1.1.1.1.0;
  snapshot = p.1.1.1.1.1;
}

-- the base of parts that were read, and of the bytes after them, which are the sum
abbrev pub base_of : List ℕ → Option (BaseParts × List ℕ) → Option BaseView
base_of bytes None = None
base_of bytes (Some x) =
    if in_ranges x.0 && pointwise nat_eq x.1 (sum_of (take (length bytes - 8) bytes))
    then Some (base_with x.0)
    else None

unfoldable pub base_in : List ℕ → Option BaseView
base_in bytes = base_of bytes (base_fields.read bytes)

-- the first byte of a payload is the kind of a base
abbrev pub begins_base : (payload : List ℕ) → Bool
begins_base [] = false
begins_base (kind ∷ rest) = kind == 1
