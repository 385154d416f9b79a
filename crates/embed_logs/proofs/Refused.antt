-- Bytes that aren't the next entries of a log.
use Rattle.std.proofs.Common.{◌≡◌, ◌⊎◌, ℕ, Bool, true, List, length, ◌+◌, refl, inl, inr, subst, sym}
use Rattle.share_entries.specs.Entry.{EntryView}
use Rattle.embed_logs.specs.Appending.{AppendFails, IsOtherAt}
use Rattle.embed_logs.specs.declared.fault.LogFileFault.{LogFileFault}
use Rattle.embed_logs.specs.declared.fault.LogFileFault.TheVariants.{Memory, NotEntries}

pub reading_fails : (mark : List ℕ) (is_open : Bool) (known : List EntryView) (bytes : List ℕ) (first : ℕ) (fault : LogFileFault) → is_open ≡ true → first ≡ length known + 1
    → (fault ≡ Memory) ⊎ ((fault ≡ NotEntries) × IsOtherAt mark first bytes) → AppendFails mark is_open known bytes fault is_open known
reading_fails mark is_open known bytes first fault taking next (inl is) =
    subst (λ (f : LogFileFault). AppendFails mark is_open known bytes f is_open known) (sym is) (taking, refl)
reading_fails mark is_open known bytes first fault taking next (inr (is, other)) =
    subst (λ (f : LogFileFault). AppendFails mark is_open known bytes f is_open known) (sym is)
    (taking, refl, subst (λ (n : ℕ). IsOtherAt mark n bytes) next other)
