-- The chain of a log: 16 bytes after each entry, by which two logs are told apart.
use Rattle.std.specs.Prelude.{◌≡◌, ◌≢◌, ◌⊎◌, ℕ, true, List, ◌++◌, length, take}
use Rattle.std.specs.List.{fold}
use Rattle.byte_codec.specs.Codec.{all_fit}
use Rattle.sha2.specs.Sha256.{sha256}
use Rattle.share_entries.specs.Entry.{EntryView, entry_codec}

-- one entry more: the first 16 bytes of the SHA-256 of the chain before and of the entry's bytes
abbrev pub link : List ℕ → EntryView → List ℕ
link chain entry = take 16 (sha256 (chain ++ entry_codec.write entry))

-- the chain after these entries; before the first entry of a log it is the run
abbrev pub chain_after : List ℕ → List EntryView → List ℕ
chain_after before entries = fold link before entries

-- ---- that a chain tells logs apart

-- two texts whose SHA-256 begins with the same 16 bytes
abbrev pub Collide : Type 0
Collide = (one other : List ℕ) × (one ≢ other) × (take 16 (sha256 one) ≡ take 16 (sha256 other))

-- two logs of equally many entries and with the same chain have the same run and entries, or two
-- texts collide
abbrev pub ChainsTell : Type 0
ChainsTell =
    (run other : List ℕ) (xs ys : List EntryView) → length run ≡ 16 → length other ≡ 16
    → all_fit entry_codec xs ≡ true → all_fit entry_codec ys ≡ true → length xs ≡ length ys
    → chain_after run xs ≡ chain_after other ys → ((run ≡ other) × (xs ≡ ys)) ⊎ Collide
