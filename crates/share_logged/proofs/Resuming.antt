-- A host that begins with entries, one entry after another.
use Rattle.std.proofs.Common.{◌≡◌, ℕ, zero, suc, ℤ, pos, ◌≤ℤ◌, ◌^◌, true, ◌+◌, ◌<◌, ◌≤◌, List, [], ◌∷◌, ◌++◌, length, get_or, take, ap, sym, ◌∙◌, subst, arith, inl, inr}
use Rattle.std.specs.Prelude.{Result, Ok, Err, OnOk}
use Rattle.std.proofs.lemmas.Int.{ints}
use Rattle.x3d_values.specs.Ranges.{is_input_time}
use Rattle.share_entries.specs.Entry.{EntryView}
use Rattle.share_entries.specs.declared.entry.Source.TheVariants.{Clock}
use Rattle.share_law.specs.declared.fault.NumberFault.{NumberFault}
use Rattle.share_law.specs.declared.fault.NumberFault.TheVariants as number_fault
use Rattle.share_law.specs.Calls.{IsPartClocked}
use Rattle.share_law.specs.Host.{HostState}
use Rattle.share_law.specs.Parts.{HostPart, part_of}
use Rattle.laws_hosts.specs.Log.{host_of}
use Rattle.share_logged.specs.declared.fault.ResumeFault.{ResumeFault}
use Rattle.share_logged.specs.declared.fault.ResumeFault.TheVariants.{Memory, NotALog}
use Rattle.share_logged.specs.Entries.{IsMadeNot, PartMakes, PartMakesOf, after_clock}
use Rattle.share_logged.specs.Logged.{logged}
use Rattle.share_logged.specs.Making.{IsLogOf, IsOfLog}
use Rattle.share_logged.specs.Resuming.{WhyNot}
use Rattle.share_logged.proofs.Keeping.{by-part, of-makes, part-makes}
use Rattle.share_logged.proofs.Making.{log-pop, logged-inputs}
use Rattle.share_logged.proofs.Places.{take_length}

-- the first items, one more than before
take-push-suc : {A : Type 0} (xs : List A) (i : ℕ) (x : A) → i < length xs → x ≡ get_or xs i x → take (suc i) xs ≡ take i xs ++ x ∷ []
take-push-suc [] i x lt e = absurd (omega (arith, lt))
take-push-suc (y ∷ xs) zero x lt e = ap (λ z. z ∷ []) (sym e)
take-push-suc (y ∷ xs) (suc i) x lt e = ap (λ l. y ∷ l) (take-push-suc xs i x (omega (arith, lt)) e)

pub take-push : {A : Type 0} (xs : List A) (i : ℕ) (x : A) → i < length xs → x ≡ get_or xs i x → take (i + 1) xs ≡ take i xs ++ x ∷ []
take-push xs i x lt e =
    let next : i + 1 ≡ suc i = omega arith in
    ap (λ n. take n xs) next ∙ take-push-suc xs i x lt e

-- the host of these entries
pub of-entries : (v : ℕ) (es : List EntryView) (p : HostPart) → IsLogOf v es → p ≡ part_of (host_of v (logged es) 1) → IsOfLog v es p
of-entries v es p log same =
    let floor : p.floor ≡ 1 = ap (λ (x : HostPart). x.floor) same in
    record {
      log = log;
      from_one = omega (arith, floor);
      to_next = omega (arith, floor);
      same = same ∙ ap (λ f. part_of (host_of v (logged es) f)) (sym floor);
    }

pub entry-made : (v : ℕ) (es : List EntryView) (i : ℕ) (e : EntryView) (p q : HostPart) → i < length es → e ≡ get_or es i e → IsOfLog v (take i es) p → PartMakes p e q → IsOfLog v (take (i + 1) es) q
entry-made v es i e p q lt is log made =
    subst (λ (l : List EntryView). IsOfLog v l q) (sym (take-push es i e lt is)) (of-makes v (take i es) p q e.time e.source log made)

-- the part after an entry, from the floor 1 on
pub part-made : (v : ℕ) (es : List EntryView) (q : HostPart) → IsOfLog v es q → q.floor ≡ 1 → q ≡ part_of (host_of v (logged es) 1)
part-made v es q is floor = is.same ∙ ap (λ f. part_of (host_of v (logged es) f)) floor

-- no host makes entry i there
pub entry-not : (v : ℕ) (es : List EntryView) (i n : ℕ) (e : EntryView) (p : HostPart) (fault : ResumeFault) → i < length es → e ≡ get_or es i e
    → IsLogOf v (take i es) → p ≡ part_of (host_of v (logged (take i es)) 1) → n ≡ i + 1 → IsMadeNot p e.time e.source n fault → WhyNot v es fault
entry-not v es i n e p Memory lt is log same number not = tt
entry-not v es i n e p (NotALog m) lt is log same number not = record {
  before = i;
  number = not.0 ∙ number;
  within = lt;
  log = log;
  broken = λ longer.
      let made = log-pop v (take i es) e (subst (IsLogOf v) (take-push es i e lt is) longer) in
      let h : HostState = host_of v (logged (take i es)) 1 in
      not.1 (part_of made.0) (subst (λ (x : HostPart). PartMakesOf x e.time e.source (part_of made.0)) (sym same)
      (part-makes h made.0 e.time e.source (by-part v 1 (take i es) (omega arith) (omega arith)) made.1));
}

-- the number of inputs of the host of the first entries
pub entry-count : (v : ℕ) (es : List EntryView) (i : ℕ) (p : HostPart) → i ≤ length es → p ≡ part_of (host_of v (logged (take i es)) 1) → p.count ≡ i
entry-count v es i p le same = ap (λ (x : HostPart). x.count) same ∙ logged-inputs (take i es) ∙ take_length es i le

-- a time that an entry has
pub time-range : (t : ℤ) → is_input_time t ≡ true → (pos 0 ≤ℤ t) × (t ≤ℤ pos (10 ^ 18))
time-range t fits =
    let low : pos 0 ≤ℤ t = grind (arith, ints) in
    let high : t ≤ℤ pos (10 ^ 18) = grind (arith, ints) in
    (low, high)

-- a clock that was numbered was made
pub made_clock : (p q : HostPart) (t : ℤ) (n : ℕ) (answer : Result ℕ NumberFault) (result : Result (Unit {0}) ResumeFault) → IsPartClocked p t answer q → result ≡ after_clock n answer
    → OnOk result (PartMakesOf p t Clock q)
made_clock p q t n answer (Err fault) k is = tt
made_clock p q t n (Ok m) (Ok u) (inl e) is = (m, e)
made_clock p q t n (Ok m) (Ok u) (inr k) is = let a = k.1 in absurd (cc)
made_clock p q t n (Err number_fault.WorldFull) (Ok u) k is = absurd (cc)
made_clock p q t n (Err number_fault.TimeNotLater) (Ok u) k is = absurd (cc)
made_clock p q t n (Err number_fault.TimeRange) (Ok u) k is = absurd (cc)
made_clock p q t n (Err number_fault.Memory) (Ok u) k is = absurd (cc)
