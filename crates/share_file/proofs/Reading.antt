-- Frames read one after the other.
use Rattle.std.proofs.Common.{◌≡◌, ◌⊎◌, inl, inr, ℕ, suc, ◌+◌, ◌<◌, List, ◌∷◌, length, get_or, drop, Result, Err, refl, sym, ◌∙◌, ap, subst, arith, drop-cons, Vec}
use Rattle.std.specs.declared.alloc.Global.{Global}
use Rattle.share_entries.specs.declared.frame.FrameFault.{FrameFault}
use Rattle.share_entries.specs.declared.frame.FrameFault.TheVariants.{Memory as NoMemory}
use Rattle.share_entries.specs.Entry.{EntryView}
use Rattle.share_entries.specs.Chain.{chain_after}
use Rattle.share_entries.specs.Frame.{frame_in}
use Rattle.share_log.specs.Log.{payloads}
use Rattle.share_file.specs.declared.fault.OpenFault.{OpenFault}
use Rattle.share_file.specs.declared.fault.OpenFault.TheVariants.{Memory, LogDamaged}
use Rattle.share_entries.specs.declared.start.Start.{Start}
use Rattle.share_file.specs.Entries.{next_in, entries_from}

-- a frame that isn't the next ends the reading
pub not_next : (start : Start) (chain : List ℕ) (known : List EntryView) (first number : ℕ) (frame : List ℕ) (fault : FrameFault) (e : OpenFault) → chain ≡ chain_after start.chain known → first ≡ start.below + length known + 1 → (fault ≡ NoMemory) ⊎ (frame_in chain first frame ≡ Err fault) → (fault ≡ NoMemory → e ≡ Memory) → (e ≡ Memory) ⊎ (e ≡ LogDamaged number) → (e ≡ Memory) ⊎ ((e ≡ LogDamaged number) × ((frames : List (List ℕ)) → entries_from start known number (frame ∷ frames) ≡ Err number))
not_next start chain known first number frame fault e linked place (inl memory) refused either = inl (refused memory)
not_next start chain known first number frame fault e linked place (inr read) refused (inl memory) = inl memory
not_next start chain known first number frame fault e linked place (inr read) refused (inr damaged) =
    let here : next_in start known frame ≡ Err fault = ap (λ (c : List ℕ). frame_in c (start.below + length known + 1) frame) (sym linked) ∙ ap (λ (n : ℕ). frame_in chain n frame) (sym place) ∙ read in
    inr (damaged, λ frames. rw (entries_from, here) refl)

module _ (start : Start) (number : ℕ) (known : List EntryView) (frames : List (Vec ℕ Global)) (i : ℕ) (item : Vec ℕ Global) (total : Result (List EntryView) ℕ) (low : i < length frames) (is : item ≡ get_or frames i item) (so_far : entries_from start known (number + i) (payloads (drop i frames)) ≡ total) where
  front : payloads (drop i frames) ≡ item.items ∷ payloads (drop (suc i) frames)
  front = ap payloads (drop-cons frames i item low ∙ ap (λ (v : Vec ℕ Global). v ∷ drop (suc i) frames) (sym is))

  pub goes_on : (longer : List EntryView) → entries_from start known (number + i) (item.items ∷ payloads (drop (suc i) frames)) ≡ entries_from start longer (suc (number + i)) (payloads (drop (suc i) frames)) → entries_from start longer (number + (i + 1)) (payloads (drop (i + 1) frames)) ≡ total
  goes_on longer next =
      let e1 : suc (number + i) ≡ number + (i + 1) = omega arith in
      let e2 : suc i ≡ i + 1 = omega arith in
      subst (λ (n : ℕ). entries_from start longer n (payloads (drop (i + 1) frames)) ≡ total) e1
      (subst (λ (n : ℕ). entries_from start longer (suc (number + i)) (payloads (drop n frames)) ≡ total) e2
      (sym next ∙ sym (ap (λ (fs : List (List ℕ)). entries_from start known (number + i) fs) front) ∙ so_far))

  pub stops : entries_from start known (number + i) (item.items ∷ payloads (drop (suc i) frames)) ≡ Err (number + i) → total ≡ Err (number + i)
  stops next = sym so_far ∙ ap (λ (fs : List (List ℕ)). entries_from start known (number + i) fs) front ∙ next
