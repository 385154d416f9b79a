-- The entries that bytes have, one after another.
use Rattle.std.specs.Prelude.{◌≡◌, ◌≢◌, ◌⊎◌, ℕ, ◌+◌, ◌≤◌, List, [], ◌++◌, length, None, ⊤}
use Rattle.std.specs.List.{flat_map}
use Rattle.x3d_values.specs.Ranges.{max_inputs}
use Rattle.share_entries.specs.Entry.{EntryView, entry_codec}
use Rattle.share_logged.specs.declared.fault.ResumeFault.{ResumeFault}
use Rattle.share_logged.specs.declared.fault.ResumeFault.TheVariants.{Memory, NotALog}

-- the bytes of entries
abbrev pub text_of : List EntryView → List ℕ
text_of entries = flat_map entry_codec.write entries

-- after entries, of which there are fewer than n, bytes are left that aren't entry n, or it is one
-- more than a world has
pub record StopsAt (bytes : List ℕ) (n : ℕ) : Type 0 where
  pub entries : List EntryView
  pub rest : List ℕ
  pub text : bytes ≡ text_of entries ++ rest
  pub some : rest ≢ []
  pub number : n ≡ length entries + 1
  pub wrong : (entry_codec.read rest ≡ None) ⊎ (max_inputs ≤ length entries)

abbrev pub WhyUnread : List ℕ → ResumeFault → Type 0
WhyUnread bytes (NotALog n) = StopsAt bytes n
WhyUnread bytes Memory = ⊤
