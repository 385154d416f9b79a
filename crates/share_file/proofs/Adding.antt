-- A frame more after those of a log.
use Rattle.std.proofs.Common.{◌≡◌, ℕ, suc, Bool, true, false, List, [], ◌∷◌, ◌++◌, Result, Ok, Err, inl, inr, refl, sym, ap, subst}
use Rattle.std.specs.Prelude.{if◌then◌else◌}
use Rattle.std.proofs.lemmas.Bool.{cases_Bool}
use Rattle.share_entries.specs.declared.head.Head.{Head}
use Rattle.share_entries.specs.Base.{begins_base}
use Rattle.share_entries.specs.Frame.{frame_in}
use Rattle.share_entries.proofs.BaseLaws.{not_framed}
use Rattle.share_entries.specs.declared.frame.FrameFault.{FrameFault}
use Rattle.share_entries.specs.Entry.{EntryView}
use Rattle.share_entries.specs.declared.start.Start.{Start}
use Rattle.share_file.specs.Entries.{base_among, behind_base, first_number, next_in, entries_from}

abbrev Then : (start : Start) (known : List EntryView) (number : ℕ) (frames : List (List ℕ)) → Result (List EntryView) FrameFault → Result (List EntryView) ℕ
Then start known number frames (Ok more) = entries_from start (known ++ more) (suc number) frames
Then start known number frames (Err fault) = Err number

pub one_more : (start : Start) (known : List EntryView) (number : ℕ) (frames : List (List ℕ)) (payload : List ℕ) (all more : List EntryView) → entries_from start known number frames ≡ Ok all → next_in start all payload ≡ Ok more → entries_from start known number (frames ++ payload ∷ []) ≡ Ok (all ++ more)
one_more start known number [] payload all more read next =
    let same : known ≡ all = cc in
    let here : next_in start known payload ≡ Ok more = subst (λ (k : List EntryView). next_in start k payload ≡ Ok more) (sym same) next in
    rw (entries_from, here) (ap (λ (k : List EntryView). Ok (k ++ more)) same)
one_more start known number (frame ∷ frames) payload all more read next =
    go (λ these rest. one_more start (known ++ these) (suc number) frames payload all more rest next) (next_in start known frame) refl read
  where
    go : ((these : List EntryView) → entries_from start (known ++ these) (suc number) frames ≡ Ok all → entries_from start (known ++ these) (suc number) (frames ++ payload ∷ []) ≡ Ok (all ++ more)) → (r : Result (List EntryView) FrameFault) → next_in start known frame ≡ r → Then start known number frames r ≡ Ok all → entries_from start known number (frame ∷ (frames ++ payload ∷ [])) ≡ Ok (all ++ more)
    go below (Ok these) is rest = rw (entries_from, is) (below these rest)
    go below (Err fault) is rest = cc

-- ---- a frame of entries is no base

pub plain : (before : List ℕ) (first : ℕ) (payload : List ℕ) (more : List EntryView) → frame_in before first payload ≡ Ok more → begins_base payload ≡ false
plain before first payload more read = elim (cases_Bool (begins_base payload)) [
  | inl base ↦ absurd (not_framed before first payload more base read)
  | inr other ↦ other
]

pub base_more : (head : Head) (frames : List (List ℕ)) (payload : List ℕ) → begins_base payload ≡ false → base_among head (frames ++ payload ∷ []) ≡ base_among head frames
base_more head [] payload other = rw other refl
base_more head (x ∷ xs) payload other = refl

pub number_more : (frames : List (List ℕ)) (payload : List ℕ) → begins_base payload ≡ false → first_number (frames ++ payload ∷ []) ≡ first_number frames
number_more [] payload other = rw other refl
number_more (x ∷ xs) payload other = refl

either : (b : Bool) (x : List ℕ) (xs : List (List ℕ)) (payload : List ℕ) → (if b then xs ++ payload ∷ [] else x ∷ (xs ++ payload ∷ [])) ≡ (if b then xs else x ∷ xs) ++ payload ∷ []
either true x xs payload = refl
either false x xs payload = refl

pub behind_more : (frames : List (List ℕ)) (payload : List ℕ) → begins_base payload ≡ false → behind_base (frames ++ payload ∷ []) ≡ behind_base frames ++ payload ∷ []
behind_more [] payload other = rw other refl
behind_more (x ∷ xs) payload other = either (begins_base x) x xs payload
