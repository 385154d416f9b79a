-- A schedule line by line: what is left to answer where these steps were read.
use Rattle.std.proofs.Common.{◌≡◌, ℕ, suc, ◌+◌, ◌<◌, List, [], ◌∷◌, ◌++◌, length, true, false, codes, Option, Some, None, Result, Ok, Err}
use Rattle.std.proofs.Common.{refl, sym, ap, subst, ◌∙◌, inl, inr, arith, zero-add, append_assoc, append-nil}
use Rattle.std.specs.Str.Lines.{lines}
use Rattle.std.specs.Cmp.Lexicographic.{same_text}
use Rattle.std.proofs.lemmas.Bool.{cases_Bool}
use Rattle.std.proofs.lemmas.List.{length-append}
use Rattle.share_law.specs.declared.step.Step.{Step}
use Rattle.app_jobs.specs.declared.fault.JobFault.{JobFault}
use Rattle.app_jobs.specs.declared.fault.JobFault.TheVariants.{BadJob}
use Rattle.app_jobs.specs.declared.schedule.Schedule.{Schedule}
use Rattle.share_rules.specs.Lines.{first_line, behind_line}
use Rattle.app_jobs.specs.Job.{is_scene, behind_lines}
use Rattle.app_jobs.specs.Schedule.{step_of, steps_of, with_step, with_bytes, line_behind, schedule_lines, EachIsStep, IsSchedule}
use Rattle.app_jobs.proofs.LineLemmas.{cut}
use Rattle.app_jobs.proofs.StepLemmas.{step_is}

-- ---- what is left

-- these steps, and then the others
pub joined : List Step → Result (List Step) JobFault → Result (List Step) JobFault
joined steps (Ok more) = Ok (steps ++ more)
joined steps (Err fault) = Err fault

joined_none : (r : Result (List Step) JobFault) → r ≡ joined [] r
unfolding joined
joined_none (Ok steps) = refl
joined_none (Err fault) = refl

joined_step : (n : ℕ) (steps : List Step) (step : Step) (r : Result (List Step) JobFault)
    → joined steps (with_step n (Some step) r) ≡ joined (steps ++ step ∷ []) r
unfolding joined
joined_step n steps step (Ok more) = ap Ok (sym (append_assoc steps (step ∷ []) more))
joined_step n steps step (Err fault) = refl

-- these steps were read of the bytes, and this text is left
pub record IsLeft (bytes : List ℕ) (steps : List Step) (text : List ℕ) : Type 0 where
  pub answer : steps_of 0 (lines bytes) ≡ joined steps (steps_of (length steps) (lines text))
  pub behind : (k : ℕ) → behind_lines (length steps + k) bytes ≡ behind_lines k text

pub at_start : (bytes : List ℕ) → IsLeft bytes [] bytes
at_start bytes = record {
  answer = joined_none (steps_of 0 (lines bytes));
  behind = λ k. ap (λ n. behind_lines n bytes) (zero-add k);
}

pub of_line : (n : ℕ) (line : List ℕ) (more : List (List ℕ)) → is_scene line ≡ false → steps_of n (line ∷ more) ≡ with_step n (step_of line) (steps_of (suc n) more)
of_line n line more fails = rw fails refl

of_text : (n : ℕ) (text : List ℕ) → 0 < length text → is_scene (first_line text) ≡ false
    → steps_of n (lines text) ≡ with_step n (step_of (first_line text)) (steps_of (suc n) (lines (behind_line text)))
of_text n text some fails =
    ap (λ all. steps_of n all) (cut text some).lines ∙ of_line n (first_line text) (lines (behind_line text)) fails

pub step_taken : (bytes : List ℕ) (steps : List Step) (text line behind : List ℕ) (step : Step) → IsLeft bytes steps text → 0 < length text
    → line ≡ first_line text → behind ≡ behind_line text → is_scene line ≡ false → step_of line ≡ Some step
    → IsLeft bytes (steps ++ step ∷ []) behind
step_taken bytes steps text line behind step left some at_line at_behind fails e =
    let fails_at : is_scene (first_line text) ≡ false = rw at_line at fails in
    let step_at : step_of (first_line text) ≡ Some step = rw at_line at e in
    let count : suc (length steps) ≡ length (steps ++ step ∷ []) = omega (arith, length-append steps (step ∷ [])) in
    let rest : List (List ℕ) = lines (behind_line text) in
    let answer : steps_of 0 (lines bytes) ≡ joined (steps ++ step ∷ []) (steps_of (length (steps ++ step ∷ [])) rest) =
    left.answer
    ∙ (ap (joined steps) (of_text (length steps) text some fails_at)
    ∙ (ap (λ s. joined steps (with_step (length steps) s (steps_of (suc (length steps)) rest))) step_at
    ∙ (joined_step (length steps) steps step (steps_of (suc (length steps)) rest)
    ∙ ap (λ n. joined (steps ++ step ∷ []) (steps_of n rest)) count))) in
    let lines_left : (k : ℕ) → behind_lines (length (steps ++ step ∷ []) + k) bytes ≡ behind_lines k (behind_line text) =
    λ k.
    let more : length (steps ++ step ∷ []) + k ≡ length steps + suc k = omega (arith, length-append steps (step ∷ [])) in
    ap (λ n. behind_lines n bytes) more ∙ (left.behind (suc k) ∙ (cut text some).behind k) in
    rw (at_behind) (record { answer = answer; behind = lines_left })

-- ---- the answers

pub scene_found : (bytes : List ℕ) (steps : List Step) (text line behind : List ℕ) → IsLeft bytes steps text → 0 < length text
    → line ≡ first_line text → behind ≡ behind_line text → is_scene line ≡ true → schedule_lines bytes ≡ Ok (record { steps = steps; scene = behind })
unfolding schedule_lines joined
scene_found bytes steps text line behind left some at_line at_behind passes =
    let passes_at : is_scene (first_line text) ≡ true = rw at_line at passes in
    let none : steps_of (length steps) (lines text) ≡ Ok [] = rw (cut text some).lines (rw passes_at refl) in
    let all : steps_of 0 (lines bytes) ≡ Ok steps = left.answer ∙ (ap (joined steps) none ∙ ap Ok (append-nil steps)) in
    let scene : behind_lines (length steps + 1) bytes ≡ behind = left.behind 1 ∙ ((cut text some).whole ∙ sym at_behind) in
    ap (with_bytes bytes) all ∙ ap (λ b. Ok (record { steps = steps; scene = b })) scene

refused : (bytes : List ℕ) (steps : List Step) (text : List ℕ) → IsLeft bytes steps text
    → steps_of (length steps) (lines text) ≡ Err (BadJob (line_behind (length steps))) → schedule_lines bytes ≡ Err (BadJob (line_behind (length steps)))
unfolding schedule_lines joined
refused bytes steps text left e = ap (with_bytes bytes) (left.answer ∙ ap (joined steps) e)

pub step_refused : (bytes : List ℕ) (steps : List Step) (text line : List ℕ) → IsLeft bytes steps text → 0 < length text
    → line ≡ first_line text → is_scene line ≡ false → step_of line ≡ None → schedule_lines bytes ≡ Err (BadJob (line_behind (length steps)))
step_refused bytes steps text line left some at_line fails e =
    let fails_at : is_scene (first_line text) ≡ false = rw at_line at fails in
    let step_at : step_of (first_line text) ≡ None = rw at_line at e in
    refused bytes steps text left (of_text (length steps) text some fails_at ∙ ap (λ s. with_step (length steps) s (steps_of (suc (length steps)) (lines (behind_line text)))) step_at)

pub at_end : (bytes : List ℕ) (steps : List Step) (text : List ℕ) → IsLeft bytes steps text → length text ≡ 0
    → schedule_lines bytes ≡ Err (BadJob (line_behind (length steps)))
at_end bytes steps [] left h = refused bytes steps [] left refl
at_end bytes steps (b ∷ text) left h = absurd (omega arith)

-- ---- a schedule that is answered, in the words of its lines

record IsSplit (all : List (List ℕ)) (steps : List Step) : Type 0 where
  lines : List (List ℕ)
  rest : List (List ℕ)
  is : all ≡ lines ++ codes "scene" ∷ rest
  each : EachIsStep lines steps
  count : length lines ≡ length steps

record IsWith (n : ℕ) (line : Option Step) (more : Result (List Step) JobFault) (steps : List Step) : Type 0 where
  step : Step
  others : List Step
  step_is : line ≡ Some step
  others_are : more ≡ Ok others
  steps_are : steps ≡ step ∷ others

with_from : (n : ℕ) (line : Option Step) (more : Result (List Step) JobFault) (steps : List Step) → with_step n line more ≡ Ok steps → IsWith n line more steps
with_from n None more steps e = absurd (cc)
with_from n (Some step) (Err fault) steps e = absurd (cc)
with_from n (Some step) (Ok others) steps e =
    let same : step ∷ others ≡ steps = cc in
    record { step = step; others = others; step_is = refl; others_are = refl; steps_are = sym same }

split_more : (line : List ℕ) (more : List (List ℕ)) (step : Step) (others : List Step) → step_of line ≡ Some step → IsSplit more others → IsSplit (line ∷ more) (step ∷ others)
split_more line more step others e s = record {
  lines = line ∷ s.lines;
  rest = s.rest;
  is = ap (λ l. line ∷ l) s.is;
  each = (step_is line step e, s.each);
  count = ap suc s.count;
}

split_from : (n : ℕ) (all : List (List ℕ)) (steps : List Step) → steps_of n all ≡ Ok steps → IsSplit all steps
split_from n [] steps e = absurd (cc)
split_from n (line ∷ more) steps e = elim (cases_Bool (is_scene line)) [
  | inl passes ↦
      let none = rw passes at e in
      let same : [] ≡ steps = cc in
      let word : line ≡ codes "scene" = same_text line (codes "scene") (sym passes) in
      subst (λ s. IsSplit (line ∷ more) s) same (record { lines = []; rest = more; is = ap (λ w. w ∷ more) word; each = tt; count = refl })
  | inr fails ↦
      let w = with_from n (step_of line) (steps_of (suc n) more) steps (sym (of_line n line more fails) ∙ e) in
      subst (λ s. IsSplit (line ∷ more) s) (sym w.steps_are) (split_more line more w.step w.others w.step_is (split_from (suc n) more w.others w.others_are))
]

record IsBehind (bytes : List ℕ) (r : Result (List Step) JobFault) (s : Schedule) : Type 0 where
  steps : r ≡ Ok s.steps
  scene : s.scene ≡ behind_lines (length s.steps + 1) bytes

behind_from : (bytes : List ℕ) (r : Result (List Step) JobFault) (s : Schedule) → with_bytes bytes r ≡ Ok s → IsBehind bytes r s
behind_from bytes (Err fault) s e = absurd (cc)
behind_from bytes (Ok steps) s e =
    let same : record { steps = steps; scene = behind_lines (length steps + 1) bytes } ≡ s = cc in
    subst (λ (t : Schedule). IsBehind bytes (Ok steps) t) same (record { steps = refl; scene = refl })

pub found : (bytes : List ℕ) (s : Schedule) → schedule_lines bytes ≡ Ok s → IsSchedule bytes s
unfolding schedule_lines
found bytes s e =
    let b = behind_from bytes (steps_of 0 (lines bytes)) s e in
    let split = split_from 0 (lines bytes) s.steps b.steps in
    record {
      steps = split.lines;
      rest = split.rest;
      lines = split.is;
      each = split.each;
      scene = b.scene ∙ ap (λ n. behind_lines (n + 1) bytes) (sym split.count);
    }
