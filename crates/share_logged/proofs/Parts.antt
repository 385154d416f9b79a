-- A host takes entries, one after another.
use Rattle.std.proofs.Common.{◌≡◌, ℕ, zero, suc, ◌+◌, ◌<◌, List, [], ◌∷◌, ◌++◌, length, get_or, take, drop, refl, ap, sym, subst, arith, append_assoc, append-nil}
use Rattle.share_entries.specs.Entry.{EntryView}
use Rattle.share_law.specs.Parts.{HostPart}
use Rattle.share_logged.specs.declared.fault.ResumeFault.{ResumeFault}
use Rattle.share_logged.specs.Entries.{IsMadeNot, PartMakes}
use Rattle.share_logged.specs.Following.{PartsMake, StopsAt}
use Rattle.share_logged.specs.Making.{IsOfLog}
use Rattle.share_logged.proofs.Keeping.{of-makes}
use Rattle.share_logged.proofs.Resuming.{take-push}

-- one entry more
parts-push : (p : HostPart) (es : List EntryView) (e : EntryView) (mid new : HostPart) → PartsMake p es mid → PartMakes mid e new → PartsMake p (es ++ e ∷ []) new
parts-push p [] e mid new same m = (new, subst (λ (x : HostPart). PartMakes x e new) same m, refl)
parts-push p (x ∷ es) e mid new a m = (a.0, a.1, parts-push a.0 es e mid new a.2 m)

pub made-next : (p : HostPart) (es : List EntryView) (i : ℕ) (e : EntryView) (mid new : HostPart) → i < length es → e ≡ get_or es i e → PartsMake p (take i es) mid → PartMakes mid e new
    → PartsMake p (take (i + 1) es) new
made-next p es i e mid new lt is a m =
    subst (λ (l : List EntryView). PartsMake p l new) (sym (take-push es i e lt is)) (parts-push p (take i es) e mid new a m)

-- the entries before and after one of them
split-at-suc : (es : List EntryView) (i : ℕ) (e : EntryView) → i < length es → e ≡ get_or es i e → es ≡ take i es ++ e ∷ drop (suc i) es
split-at-suc [] i e lt is = absurd (omega (arith, lt))
split-at-suc (x ∷ es) zero e lt is = ap (λ z. z ∷ es) (sym is)
split-at-suc (x ∷ es) (suc i) e lt is = ap (λ l. x ∷ l) (split-at-suc es i e (omega (arith, lt)) is)

pub stops-at : (p : HostPart) (es : List EntryView) (i n : ℕ) (e : EntryView) (mid : HostPart) (fault : ResumeFault) → i < length es → e ≡ get_or es i e → PartsMake p (take i es) mid
    → n ≡ mid.count + 1 → IsMadeNot mid e.time e.source n fault → StopsAt p es fault
stops-at p es i n e mid fault lt is a number not = record {
  before = take i es;
  entry = e;
  after = drop (suc i) es;
  split = split-at-suc es i e lt is;
  next = mid;
  made = a;
  failed = subst (λ (k : ℕ). IsMadeNot mid e.time e.source k fault) number not;
}

-- the host stays that of its log, with these entries
pub of-made : (v : ℕ) (known es : List EntryView) (p q : HostPart) → IsOfLog v known p → PartsMake p es q → IsOfLog v (known ++ es) q
of-made v known [] p q is same =
    subst (λ (l : List EntryView). IsOfLog v l q) (sym (append-nil known)) (subst (λ (x : HostPart). IsOfLog v known x) (sym same) is)
of-made v known (e ∷ es) p q is a =
    let next : IsOfLog v (known ++ e ∷ []) a.0 = of-makes v known p a.0 e.time e.source is a.1 in
    subst (λ (l : List EntryView). IsOfLog v l q) (append_assoc known (e ∷ []) es) (of-made v (known ++ e ∷ []) es a.0 q next a.2)
