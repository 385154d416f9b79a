-- A job that is answered, in the words of its lines.
use Rattle.std.proofs.Common.{◌≡◌, ℕ, ◌+◌, ℤ, pos, ◌+ℤ◌, List, [], ◌∷◌, ◌++◌, length, take, drop, Bool, true, false, codes, Option, Some, None, Result, Ok}
use Rattle.std.proofs.Common.{Err, refl, sym, ap, ◌∙◌, inl, inr, append_assoc, append-nil, take-append-drop}
use Rattle.std.specs.Result.{result_ok}
use Rattle.std.specs.List.{fold, list_any, before_first}
use Rattle.std.specs.Str.{bytes_eq}
use Rattle.std.specs.Str.Lines.{lines}
use Rattle.std.specs.Cmp.Lexicographic.{same_text}
use Rattle.std.proofs.lemmas.Bool.{cases_Bool}
use Rattle.std.proofs.lemmas.List.{length-append}
use Rattle.x3d_numerals.specs.Numeral.{IsNumeral}
use Rattle.x3d_numerals.specs.Reading.{numeral}
use Rattle.x3d_numerals.proofs.Numerals.{value_iff}
use Rattle.x3d_values.specs.Pointing.{PointerView}
use Rattle.x3d_values.specs.Stamp.{StampedView}
use Rattle.x3d_values.specs.declared.stamped.Cause.{Cause}
use Rattle.x3d_values.specs.declared.stamped.Cause.TheVariants.{Clock, Pointer}
use Rattle.app_jobs.specs.declared.fault.JobFault.{JobFault}
use Rattle.app_jobs.specs.declared.fault.JobFault.TheVariants.{BadJob}
use Rattle.app_jobs.specs.Job.{AreSteps, Lined, IsJob, IsJobStep, IsNumbered, asked, clock_time, last_time, next_input, with_line, with_scene, is_scene, job_lines}
use Rattle.app_jobs.specs.Points.{pointed}
use Rattle.app_jobs.proofs.JobLemmas.{IsTaken, fold-err, before-cons_no, before-cons_yes, last_time-push, taken_from}
use Rattle.app_jobs.proofs.PointLemmas.{point_from}

-- ---- a line that asks for an input is `clock T`

ok_from : {X E : Type 0} (r : Result X E) (x : X) → result_ok r ≡ Some x → r ≡ Ok x
ok_from (Ok y) x e = let same : y ≡ x = cc in ap Ok same
ok_from (Err f) x e = absurd (cc)

clock_from : (line : List ℕ) (t : ℤ) → clock_time line ≡ Some t → (text : List ℕ) × (line ≡ codes "clock " ++ text) × IsNumeral text t
unfolding clock_time
clock_from line t e = elim (cases_Bool (bytes_eq (take 6 line) (codes "clock "))) [
  | inl passes ↦
      let read : result_ok (numeral (drop 6 line)) ≡ Some t = rw passes at e in
      let word : take 6 line ≡ codes "clock " = same_text (take 6 line) (codes "clock ") (sym passes) in
      let whole : line ≡ codes "clock " ++ drop 6 line = sym (take-append-drop 6 line) ∙ ap (λ w. w ++ drop 6 line) word in
      (drop 6 line, whole, (value_iff (drop 6 line) (numeral (drop 6 line)) refl t).0 (ok_from _ t read))
  | inr fails ↦ let none = rw fails at e in absurd (cc)
]

numbered_by : (given : List StampedView) (t : ℤ) (cause : Cause) (input : StampedView) → IsTaken given t cause input → IsNumbered (length given) (last_time given) input
numbered_by given t cause input h = record { number = h.next.number; few = h.next.few; later = h.next.later; in_range = h.in_range }

abbrev IsStep : List StampedView → List ℕ → StampedView → Type 0
IsStep given line input = IsJobStep (length given) (last_time given) line input

step_from : (given : List StampedView) (line : List ℕ) (input : StampedView) (time : Option ℤ) (p : Option PointerView) → clock_time line ≡ time → pointed line ≡ p
    → asked given time p ≡ Some input → IsStep given line input
step_from given line input None None at_time at_point e = absurd (cc)
step_from given line input (Some t) p at_time at_point e =
    let taken = taken_from given t Clock input e in
    let (text, whole, number) = clock_from line t at_time in
    record {
      says = inl (record { text = text; is = whole; time = rw taken.time number; cause = taken.event_is });
      numbered = numbered_by given t Clock input taken;
    }
step_from given line input None (Some p) at_time at_point e =
    let time : ℤ = last_time given +ℤ pos 1 in
    let taken = taken_from given time (Pointer p) input e in
    record {
      says = inr (record { pointing = p; words = point_from line p at_point; time = taken.time; cause = taken.event_is });
      numbered = numbered_by given time (Pointer p) input taken;
    }

step_is : (given : List StampedView) (line : List ℕ) (input : StampedView) → next_input given line ≡ Some input → IsStep given line input
unfolding next_input
step_is given line input e = step_from given line input (clock_time line) (pointed line) refl refl e

-- ---- the steps

record Grown (given : List StampedView) (steps : List (List ℕ)) (inputs : List StampedView) : Type 0 where
  more : List StampedView
  is : inputs ≡ given ++ more
  each : AreSteps (length given) (last_time given) steps more

grown_by : (given : List StampedView) (line : List ℕ) (steps : List (List ℕ)) (inputs : List StampedView) (input : StampedView) → IsStep given line input
    → Grown (given ++ input ∷ []) steps inputs → Grown given (line ∷ steps) inputs
grown_by given line steps inputs input step g = record {
  more = input ∷ g.more;
  is = g.is ∙ append_assoc given (input ∷ []) g.more;
  each = (step, (rw (last_time-push given input, length-append given (input ∷ [])) at g.each));
}

grown_with : (given : List StampedView) (line : List ℕ) (steps : List (List ℕ)) (inputs : List StampedView) (next : Option StampedView) → next ≡ next_input given line
    → ((other : List StampedView) → fold with_line (Ok other) steps ≡ Ok inputs → Grown other steps inputs)
    → fold with_line (with_line (Ok given) line) steps ≡ Ok inputs → Grown given (line ∷ steps) inputs
grown_with given line steps inputs None same go e =
    let bad = rw (← same) at e in
    let err : Err (BadJob (length given + 1)) ≡ Ok inputs = sym (fold-err (BadJob (length given + 1)) steps) ∙ bad in
    absurd (cc)
grown_with given line steps inputs (Some input) same go e =
    let more = rw (← same) at e in
    grown_by given line steps inputs input (step_is given line input (sym same)) (go (given ++ input ∷ []) more)

grown : (given : List StampedView) (steps : List (List ℕ)) (inputs : List StampedView) → fold with_line (Ok given) steps ≡ Ok inputs → Grown given steps inputs
grown given [] inputs e = let same : given ≡ inputs = cc in record { more = []; is = sym same ∙ sym (append-nil given); each = tt }
grown given (line ∷ steps) inputs e = grown_with given line steps inputs (next_input given line) refl (λ other h. grown other steps inputs h) e

-- ---- the line behind them

record Split {A : Type 0} (p : A → Bool) (xs : List A) : Type 0 where
  found : A
  rest : List A
  is : xs ≡ before_first p xs ++ found ∷ rest
  passes : p found ≡ true

split_first : {A : Type 0} (p : A → Bool) (xs : List A) → list_any p xs ≡ true → Split p xs
split_first p [] h = absurd (cc)
split_first p (x ∷ xs) h = elim (cases_Bool (p x)) [
  | inl passes ↦ record { found = x; rest = xs; is = rw (before-cons_yes p x xs passes) refl; passes = passes }
  | inr fails ↦
      let later : list_any p xs ≡ true = rw fails at h in
      let s = split_first p xs later in
      record {
        found = s.found;
        rest = s.rest;
        is = ap (λ l. x ∷ l) s.is ∙ ap (λ l. l ++ s.found ∷ s.rest) (sym (before-cons_no p x xs fails));
        passes = s.passes;
      }
]

record Scened (there : Bool) (scene : List ℕ) (r : Result (List StampedView) JobFault) (job : Lined) : Type 0 where
  is_there : there ≡ true
  inputs : r ≡ Ok job.inputs
  scene_is : job.scene ≡ scene

scened_from : (line : ℕ) (there : Bool) (scene : List ℕ) (r : Result (List StampedView) JobFault) (job : Lined) → with_scene line there scene r ≡ Ok job
    → Scened there scene r job
scened_from line there scene (Err f) job e = absurd (cc)
scened_from line false scene (Ok inputs) job e = absurd (cc)
scened_from line true scene (Ok inputs) job e =
    let same : record { inputs = inputs; scene = scene } ≡ job = cc in
    record { is_there = refl; inputs = ap Ok (ap (λ (j : Lined). j.inputs) same); scene_is = sym (ap (λ (j : Lined). j.scene) same) }

pub found : (bytes : List ℕ) (job : Lined) → job_lines bytes ≡ Ok job → IsJob bytes job
unfolding job_lines last_time
found bytes job e =
    let s = scened_from _ _ _ _ job e in
    let first = split_first is_scene (lines bytes) s.is_there in
    let g = grown [] (before_first is_scene (lines bytes)) job.inputs s.inputs in
    let word : first.found ≡ codes "scene" = same_text first.found (codes "scene") (sym first.passes) in
    record {
      steps = before_first is_scene (lines bytes);
      rest = first.rest;
      lines = first.is ∙ ap (λ w. before_first is_scene (lines bytes) ++ w ∷ first.rest) word;
      each = rw g.is g.each;
      scene = s.scene_is;
    }
