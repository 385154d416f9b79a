-- Entries that are stored some at a time, and what a fault then leaves.
use Rattle.std.proofs.Common.{◌≡◌, ◌≤◌, ℕ, ◌+◌, ◌-◌, Bool, true, false, List, [], ◌++◌, take, drop, slice_range, refl, ap, sym, ◌∙◌, arith}
use Rattle.std.specs.Prelude.{◌==◌, if◌then◌else◌}
use Rattle.std.proofs.Math.Seq.{take-add}
use Rattle.std.proofs.lemmas.Bool.Decides.{nat_tests}
use Rattle.std.proofs.lemmas.List.{append-nil, append_assoc, take-append-drop}
use Rattle.share_entries.specs.Entry.{EntryView}
use Rattle.share_store.specs.declared.fault.AppendFault.{AppendFault}
use Rattle.share_store.specs.declared.fault.AppendFault.TheVariants.{Memory, Full, Taken, InDoubt}
use Rattle.embed_logs.specs.Appending.{FailsWith, StaysOpen, fault_after}

-- the next ones after those that were stored
pub stored_more : (entries old known new : List EntryView) (done end : ℕ) → done ≤ end → known ≡ old ++ take done entries → new ≡ known ++ slice_range entries done end → new ≡ old ++ take end entries
stored_more entries old known new done end le so_far more =
    let sum : end ≡ done + (end - done) = omega (arith, le) in
    let whole : take end entries ≡ take done entries ++ slice_range entries done end =
    ap (λ (n : ℕ). take n entries) sum ∙ take-add done (end - done) entries in
    more ∙ ap (λ (l : List EntryView). l ++ slice_range entries done end) so_far
    ∙ append_assoc old (take done entries) (slice_range entries done end) ∙ ap (λ (l : List EntryView). old ++ l) (sym whole)

-- nothing was stored before
at_first : (fault : AppendFault) (is_open : Type 0) (old entries new : List EntryView) → StaysOpen fault is_open → new ≡ old → FailsWith fault is_open old entries new
at_first Memory is_open old entries new still same = (still, same)
at_first Full is_open old entries new still same = (still, same)
at_first Taken is_open old entries new still same = ([], entries, refl, same ∙ sym (append-nil old))
at_first InDoubt is_open old entries new still same = ([], entries, refl, same ∙ sym (append-nil old))

pub fails_after : (done : ℕ) (fault : AppendFault) (is_open : Type 0) (old entries known new : List EntryView) → StaysOpen fault is_open → known ≡ old ++ take done entries → new ≡ known
    → FailsWith (fault_after done fault) is_open old entries new
fails_after done fault is_open old entries known new still so_far kept = by (done == 0) refl where
  by : (b : Bool) → (done == 0) ≡ b → FailsWith (if b then fault else InDoubt) is_open old entries new
  by true e =
      let none : done ≡ 0 = grind (arith, nat_tests) in
      at_first fault is_open old entries new still (kept ∙ so_far ∙ ap (λ (n : ℕ). old ++ take n entries) none ∙ append-nil old)
  by false e = (take done entries, drop done entries, sym (take-append-drop done entries), kept ∙ so_far)
