-- One fault after another, for each of which what is at fault is left out.
use Rattle.std.proofs.Common.{List, ℕ, ◌+◌, ◌^◌, ◌≡◌, ◌⊎◌, ◌++◌, [], ◌∙◌, Some, None, Result, Ok, Err, IfOk, IfErr, OnOk, inl, inr, ap, sym, subst}
use Rattle.std.specs.Prelude.{Bool, true, false, not, ◌∷◌, if◌then◌else◌}
use Rattle.std.specs.List.{list_any}
use Rattle.std.proofs.lemmas.List.{map-append}
use Rattle.classic_tree.specs.declared.tree.Document.{Document}
use Rattle.app_jobs.specs.declared.fault.JobFault.{JobFault}
use Rattle.app_jobs.specs.declared.fault.JobFault.TheVariants.{Memory}
use Rattle.scene_faults.specs.declared.blame.Blame.{Blame}
use Rattle.app_part.specs.Mends.{blame_of, is_gone, is_limit, mends, place, places, with_first}
use Rattle.app_part.specs.Parts.{Mended, everything, at_fault, Mending, begun, more, IsEnded, IsMade, IsTurnedDown}
use Rattle.app_part.specs.Statements.{all_statements}
use Rattle.app_part.specs.Whole.{AreMends, IsBare, IsEnd, IsLast, IsLeft, IsMended, IsMending, IsStuck, IsUnmended}
use Rattle.app_part.specs.declared.part.Mends.{Mends}
use Rattle.app_part.specs.declared.tries.Made.{Made}

-- ---- what is left out for a first fault

abbrev any_left : List ℕ → List Blame → Bool
any_left refused blames = list_any (λ b. not (is_gone refused (place b))) blames

by_asking : (refused : List ℕ) (fault : JobFault) (blames seen : List Blame) (first : Blame) (asked : Bool) → blame_of fault ≡ Some first
    → seen ≡ blames → asked ≡ any_left refused seen → mends refused fault blames
    ≡ (if asked then Some blames else if is_gone refused first.line then None else Some (first ∷ []))
by_asking refused fault blames seen first asked is same by =
    ap (with_first refused blames) is
    ∙ ap (λ b. if b then Some blames else if is_gone refused first.line then None else Some (first ∷ []))
    (ap (any_left refused) (sym same) ∙ sym by)

pub some_left : (refused : List ℕ) (fault : JobFault) (blames seen : List Blame) (first : Blame) (asked : Bool) → blame_of fault ≡ Some first
    → seen ≡ blames → asked ≡ any_left refused seen → asked ≡ true → Some blames ≡ mends refused fault blames
some_left refused fault blames seen first asked is same by on =
    sym (by_asking refused fault blames seen first asked is same by
    ∙ ap (λ b. if b then Some blames else if is_gone refused first.line then None else Some (first ∷ [])) on)

by_first : (refused : List ℕ) (fault : JobFault) (blames seen : List Blame) (first : Blame) (asked was : Bool) → blame_of fault ≡ Some first
    → seen ≡ blames → asked ≡ any_left refused seen → asked ≡ false → was ≡ is_gone refused first.line
    → mends refused fault blames ≡ (if was then None else Some (first ∷ []))
by_first refused fault blames seen first asked was is same by off gone =
    by_asking refused fault blames seen first asked is same by
    ∙ ap (λ b. if b then Some blames else if is_gone refused first.line then None else Some (first ∷ [])) off
    ∙ ap (λ b. if b then None else Some (first ∷ [])) (sym gone)

pub all_gone : (refused : List ℕ) (fault : JobFault) (blames seen : List Blame) (first : Blame) (asked was : Bool) → blame_of fault ≡ Some first
    → seen ≡ blames → asked ≡ any_left refused seen → asked ≡ false → was ≡ is_gone refused first.line → was ≡ true
    → None ≡ mends refused fault blames
all_gone refused fault blames seen first asked was is same by off gone on =
    sym (by_first refused fault blames seen first asked was is same by off gone ∙ ap (λ b. if b then None else Some (first ∷ [])) on)

pub the_first : (refused : List ℕ) (fault : JobFault) (blames seen made : List Blame) (first : Blame) (asked was : Bool) → blame_of fault ≡ Some first
    → seen ≡ blames → asked ≡ any_left refused seen → asked ≡ false → was ≡ is_gone refused first.line → was ≡ false → made ≡ first ∷ []
    → Some made ≡ mends refused fault blames
the_first refused fault blames seen made first asked was is same by off gone not_gone_is one =
    ap (λ m. Some m) one
    ∙ sym (by_first refused fault blames seen first asked was is same by off gone ∙ ap (λ b. if b then None else Some (first ∷ [])) not_gone_is)

-- ---- tries

none_some : {blames : List Blame} → None ≡ Some blames → ⊥
none_some e = cc

-- nothing is left out for memory
no_mend : (refused : List ℕ) (fault : JobFault) (blames made : List Blame) → fault ≡ Memory → mends refused fault blames ≡ Some made → ⊥
no_mend refused fault blames made is found = none_some (ap (λ f. mends refused f blames) (sym is) ∙ found)

memory_limit : (fault : JobFault) → fault ≡ Memory → is_limit fault ≡ false → ⊥
memory_limit fault is off = differ (sym (ap is_limit is) ∙ off)
  where
    differ : true ≡ false → ⊥
    differ e = cc

-- a try without what begins at the places that are refused
down_at : (d : Document) (old : Mends) (seen : List ℕ) (fault : JobFault) (blames : List Blame)
    → seen ≡ old.refused → AreMends old → IsTurnedDown d seen fault blames
    → IsTurnedDown d (places old.blames) fault blames
down_at d old seen fault blames same are turned =
    subst (λ r. IsTurnedDown d r fault blames) (same ∙ are) turned

more_places : (old new : Mends) (all : List Blame) → AreMends old → new.blames ≡ old.blames ++ all
    → new.refused ≡ old.refused ++ places all → AreMends new
more_places old new all are left gone =
    gone ∙ ap (λ r. r ++ places all) are ∙ sym (map-append place old.blames all) ∙ ap places (sym left)

-- one try more
pub mended_more : (d : Document) (tries : ℕ) (old new : Mends) (seen : List ℕ) (fault : JobFault) (blames : List Blame) (left : Bool)
    → seen ≡ old.refused → IsMending d tries old → (fault ≡ Memory) ⊎ IsTurnedDown d seen fault blames
    → IsLeft old new fault blames left → left ≡ true → IsMending d (tries + 1) new
mended_more d tries old new seen fault blames false same before why left on = absurd (differ on)
  where
    differ : false ≡ true → ⊥
    differ e = cc
mended_more d tries old new seen fault blames true same before (inl is) one on = absurd (no_mend old.refused fault blames one.more is one.found)
mended_more d tries old new seen fault blames true same before (inr turned) one on = (
  more_places old new one.more before.0 one.left one.gone,
  subst (λ b. Mending d (tries + 1) b) (sym one.left)
      (more before.1 (down_at d old seen fault blames same before.0 turned) (ap (λ r. mends r fault blames) (sym before.0) ∙ one.found)),
)

-- a scene
pub mended_good : (d : Document) (tries : ℕ) (mended : Mends) (seen : List ℕ) (made : Made) → seen ≡ mended.refused → IsMending d tries mended
    → IsMade d seen made.text.items made.left → IsMended d mended made
mended_good d tries mended seen made same before is = record {
  mended = at_fault before.1;
  good = subst (λ r. IsMade d r made.text.items made.left) (same ∙ before.0) is;
}

-- a limit
pub stuck : (d : Document) (tries : ℕ) (old : Mends) (seen : List ℕ) (fault answer : JobFault) (blames : List Blame)
    → seen ≡ old.refused → IsMending d tries old → (fault ≡ Memory) ⊎ IsTurnedDown d seen fault blames
    → (answer ≡ Memory) ⊎ IsLast fault answer → IsUnmended d answer
stuck d tries old seen fault answer blames same before why (inl is) = inl is
stuck d tries old seen fault answer blames same before (inl is) (inr last) = inl (last.is ∙ is)
stuck d tries old seen fault answer blames same before (inr turned) (inr last) =
    inr (subst (λ f. IsStuck d f) (sym last.is) (record {
      left = old.blames;
      blames = blames;
      mended = at_fault before.1;
      turned_down = down_at d old seen fault blames same before.0 turned;
      limit = last.limit;
    }))

-- ---- without all statements

-- nothing is found that goes
ended_by : (d : Document) (tries : ℕ) (old new : Mends) (seen : List ℕ) (fault : JobFault) (blames : List Blame)
    → seen ≡ old.refused → IsMending d tries old → (fault ≡ Memory) ⊎ IsTurnedDown d seen fault blames → IsEnd old new fault blames
    → IsEnded d tries old.blames
ended_by d tries old new seen fault blames same before (inl is) end = absurd (memory_limit fault is end.limit)
ended_by d tries old new seen fault blames same before (inr turned) end =
    inr (fault, blames, down_at d old seen fault blames same before.0 turned, end.limit, ap (λ r. mends r fault blames) (sym before.0) ∙ end.found)

bare_made : (d : Document) (tries : ℕ) (old new : Mends) (r : Result Made JobFault) → IsMending d tries old → IsEnded d tries old.blames
    → OnOk r (IsBare d old new) → IfOk r (λ m. IsMade d new.refused m.text.items m.left) → IfOk r (IsMended d new)
bare_made d tries old new (Err f) before ended bare is = tt
bare_made d tries old new (Ok made) before ended bare is = record {
  mended = subst (λ b. Mended d b) (sym bare.left) (everything before.1 ended);
  good = subst (λ r. IsMade d r made.text.items made.left) (more_places old new (all_statements d) before.0 bare.left bare.gone) is;
}

pub ended_made : (d : Document) (tries : ℕ) (old mid new : Mends) (seen : List ℕ) (fault : JobFault) (blames : List Blame) (left : Bool) (r : Result Made JobFault)
    → seen ≡ old.refused → IsMending d tries old → (fault ≡ Memory) ⊎ IsTurnedDown d seen fault blames
    → IsLeft old mid fault blames left → left ≡ false
    → OnOk r (IsBare d mid new) → IfOk r (λ m. IsMade d new.refused m.text.items m.left) → IfOk r (IsMended d new)
ended_made d tries old mid new seen fault blames true r same before why end off bare is = absurd (differ off)
  where
    differ : true ≡ false → ⊥
    differ e = cc
ended_made d tries old mid new seen fault blames false r same before why end off bare is =
    bare_made d tries old new r before (ended_by d tries old mid seen fault blames same before why end)
    (subst (λ (m : Mends). OnOk r (IsBare d m new)) end.same bare) is

-- there were too many tries
pub all_tried_made : (d : Document) (tries : ℕ) (old new : Mends) (r : Result Made JobFault) → IsMending d tries old → tries ≡ 2 ^ 16
    → OnOk r (IsBare d old new) → IfOk r (λ m. IsMade d new.refused m.text.items m.left) → IfOk r (IsMended d new)
all_tried_made d tries old new r before enough bare is = bare_made d tries old new r before (inl enough) bare is

pub bare_refused : {X : Type 0} (d : Document) (r : Result X JobFault) → IfErr r (λ f. f ≡ Memory) → IfErr r (IsUnmended d)
bare_refused d (Ok x) why = tt
bare_refused d (Err f) why = inl why

-- at first nothing is left out
pub begun_at : (d : Document) (refused : List ℕ) (blames : List Blame) → refused ≡ [] → blames ≡ []
    → (refused ≡ places blames) × Mending d 0 blames
begun_at d refused blames none no_blame = (
  none ∙ ap places (sym no_blame),
  subst (λ b. Mending d 0 b) (sym no_blame) begun,
)
