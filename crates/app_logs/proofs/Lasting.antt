-- What a crash leaves of a log that takes appends.
use Rattle.std.proofs.Common.{◌∙◌, ℕ, Bool, IsTrue, List, drop, ap, sym}
use Rattle.std.proofs.lemmas.List.{take-append-drop}
use Rattle.share_log.specs.declared.log.Log.{Log}
use Rattle.share_store.specs.OneLog.{Last}
use Rattle.share_entries.specs.declared.start.Start.{Start}
use Rattle.share_file.specs.Entries.{entries_in}
use Rattle.share_file.specs.Keeping.{IsKept, LeavesEntries, known_in}

pub open_lasts : {D : Type 0} (seen : D → List ℕ) (may_leave : D → List ℕ → Type 0) (is_usable is_clean : D → Bool) (log : Log D) (start : Start)
    (chain : List ℕ) (count : ℕ) (is_open : Bool) → IsKept seen may_leave is_usable is_clean log start chain count is_open → IsTrue is_open → IsTrue (is_clean log.disk)
    → Last (LeavesEntries start (may_leave log.disk)) (known_in start count (seen log.disk))
open_lasts seen may_leave is_usable is_clean log start chain count is_open kept taking clean = λ left leaves.
    let entries = entries_in start (seen log.disk) in
    let same = ((kept.ready taking).at_rest clean).durable leaves.0 leaves.1 in
    (drop count entries, sym leaves.2 ∙ ap (λ (c : List ℕ). entries_in start c) same ∙ sym (take-append-drop count entries))
