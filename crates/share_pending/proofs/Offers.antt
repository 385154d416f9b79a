-- What is kept of each viewer, by the entries of a log.
use Rattle.std.proofs.Common.{◌≡◌, ℕ, zero, suc, ◌+◌, ◌-◌, ◌<◌, ◌≤◌, List, [], ◌∷◌, ◌++◌, get_or, length, take, refl, ap, sym, ◌∙◌, arith}
use Rattle.std.specs.Prelude.{Option, Some, None, IfSome, slice_get}
use Rattle.share_entries.specs.Entry.{EntryView}
use Rattle.share_entries.specs.declared.entry.Source.{Source}
use Rattle.share_entries.specs.declared.entry.Source.TheVariants.{Clock, Offer}
use Rattle.share_rules.specs.declared.kept.SeatCount.{SeatCount}
use Rattle.laws_hosts.specs.Log as log
use Rattle.share_logged.specs.Logged.{cause_of, entry_at, logged_from}
use Rattle.share_logged.proofs.Resuming.{take-push}
use Rattle.share_pending.specs.Kept.{kept_by, kept_with}

kept-one : (kept : List SeatCount) (n : ℕ) (e : EntryView) (s : Source) → e.source ≡ s → log.kept_by kept (entry_at n (record { time = e.time; source = s })) (cause_of s) ≡ kept_by kept s
kept-one kept n e Clock is = refl
kept-one kept n e (Offer o) is = refl

pub kept-same : (kept : List SeatCount) (n : ℕ) (es : List EntryView) → log.kept_after kept (logged_from n es) ≡ kept_with kept es
kept-same kept n [] = refl
kept-same kept n (e ∷ es) =
    ap (λ (k : List SeatCount). log.kept_after k (logged_from (n + 1) es)) (kept-one kept n e e.source refl)
    ∙ kept-same (kept_by kept e.source) (n + 1) es

pub kept-append : (kept : List SeatCount) (a b : List EntryView) → kept_with kept (a ++ b) ≡ kept_with (kept_with kept a) b
kept-append kept [] b = refl
kept-append kept (e ∷ a) b = kept-append (kept_by kept e.source) a b

-- one entry more
pub kept-next : (first kept new : List SeatCount) (es : List EntryView) (i : ℕ) (e : EntryView) (s : Source) → i < length es → e ≡ get_or es i e → s ≡ e.source
    → kept ≡ kept_with first (take i es) → new ≡ kept_by kept s → new ≡ kept_with first (take (i + 1) es)
kept-next first kept new es i e s lt is source before made =
    made ∙ ap (kept_by kept) source ∙ ap (λ (k : List SeatCount). kept_by k e.source) before
    ∙ sym (kept-append first (take i es) (e ∷ [])) ∙ ap (kept_with first) (sym (take-push es i e lt is))

-- what a list has is at a place below its length
one-more : {A : Type 0} (i n : ℕ) (o : Option A) → IfSome o (λ x. i < n - 1) → IfSome o (λ x. suc i < n)
one-more i n None is = tt
one-more i n (Some x) is = omega (arith, is)

pub within : {A : Type 0} (xs : List A) (i n : ℕ) → length xs ≤ n → IfSome (slice_get xs i) (λ x. i < n)
within [] i n le = tt
within (x ∷ xs) zero n le = omega (arith, le)
within (x ∷ xs) (suc i) n le = one-more i n (slice_get xs i) (within xs i (n - 1) (omega (arith, le)))
