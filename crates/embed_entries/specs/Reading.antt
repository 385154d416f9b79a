-- Reading entries after their numbers, or why the bytes aren't entries.
use Rattle.std.specs.Prelude.{◌≡◌, ◌≢◌, ◌⊎◌, ℕ, ◌+◌, ◌≤◌, List, [], ◌++◌, Bool, false, length, take, nat_eq, None, ⊤}
use Rattle.std.specs.Cmp.Lexicographic.{pointwise}
use Rattle.std.specs.Int.{w64}
use Rattle.byte_codec.specs.Codec.{number_text}
use Rattle.x3d_values.specs.Ranges.{max_inputs}
use Rattle.share_entries.specs.Entry.{EntryView, entry_codec}
use Rattle.embed_entries.specs.Appends.{lines_from}
use Rattle.embed_entries.specs.declared.reading.EntriesFault.{EntriesFault}
use Rattle.embed_entries.specs.declared.reading.EntriesFault.TheVariants.{Gap, Memory, NotAnEntry}

abbrev pub begins_with : (front bytes : List ℕ) → Bool
begins_with front bytes = pointwise nat_eq (take (length front) bytes) front

-- after these lines, of which the first has this number, other bytes follow, where the n-th entry
-- should be
pub record StopsAt (first : ℕ) (bytes : List ℕ) (n : ℕ)
    (Wrong : List EntryView → List ℕ → Type 0) : Type 0 where
  pub entries : List EntryView
  pub rest : List ℕ
  pub text : bytes ≡ lines_from first entries ++ rest
  pub some : rest ≢ []
  pub number : n ≡ length entries + 1
  pub wrong : Wrong entries rest

-- the bytes don't begin with the number of the next entry
abbrev pub HasAnother : (first : ℕ) → List EntryView → List ℕ → Type 0
HasAnother first entries rest =
    begins_with (number_text w64 (first + length entries)) rest ≡ false

-- no entry follows its number, or it is one more than a world has
abbrev pub HasNone : (first : ℕ) → List EntryView → List ℕ → Type 0
HasNone first entries rest =
    (max_inputs ≤ length entries)
    ⊎ ((line : List ℕ) × (rest ≡ number_text w64 (first + length entries) ++ line)
    × (entry_codec.read line ≡ None))

-- why bytes aren't lines, of which the first has this number
abbrev pub WhyNoEntries : (first : ℕ) → List ℕ → EntriesFault → Type 0
WhyNoEntries first bytes (Gap n) = StopsAt first bytes n (HasAnother first)
WhyNoEntries first bytes (NotAnEntry n) = StopsAt first bytes n (HasNone first)
WhyNoEntries first bytes Memory = ⊤
