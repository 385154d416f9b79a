-- The end of a file at rest.
use Rattle.std.proofs.Common.{◌≡◌, ◌≢◌, ℕ, suc, ◌+◌, List, [], ◌∷◌, length, get_or, drop, Bool, true, false, ◌∙◌, ap, arith, drop-cons}
use Rattle.std.specs.Prelude.{slice_index, not, ◌&&◌}
use Rattle.std.proofs.lemmas.Bool.{ne_eqb}
use Rattle.share_entries.specs.Entry.{EntryView}
use Rattle.share_entries.specs.declared.start.Start.{Start}
use Rattle.share_file.specs.Contents.{ends_well}
use Rattle.share_file.proofs.Tails.{no_tail}

one_left : (file : List ℕ) (end : ℕ) → length file ≡ end + 1 → drop end file ≡ slice_index file end ∷ []
one_left file end all =
    drop-cons file end 0 (omega (arith, all)) ∙ ap (λ (rest : List ℕ). get_or file end 0 ∷ rest) (no_tail file (suc end) (omega (arith, all)))

-- a shut gate and nothing after it
pub shut_well : (start : Start) (entries : List EntryView) (file : List ℕ) (end : ℕ) → length file ≡ end + 1 → slice_index file end ≢ 1 → ends_well start entries (drop end file) ≡ true
shut_well start entries file end all shut =
    ap (λ (tail : List ℕ). ends_well start entries tail) (one_left file end all)
    ∙ ap (λ (is_one : Bool). not is_one && not false) (ne_eqb (slice_index file end) 1 shut)
