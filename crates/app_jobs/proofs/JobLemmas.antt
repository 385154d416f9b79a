-- A job line by line: what is left to answer where these inputs were read.
use Rattle.std.proofs.Common.{◌≡◌, ℕ, suc, ◌+◌, ◌-◌, ◌<◌, ◌≤◌, ◌<ℤ◌, ℤ, pos, ◌+ℤ◌, List, [], ◌∷◌, ◌++◌, length, take, Bool, true, false, Option}
use Rattle.std.proofs.Common.{Some, None, Result, Ok, Err, slice_get, refl, sym, ap, ◌∙◌, inl, inr, arith, zero-add}
use Rattle.std.specs.Option.{option_map_or}
use Rattle.std.specs.List.{fold, list_any, position_or_len, before_first}
use Rattle.std.specs.Str.Lines.{lines}
use Rattle.std.proofs.lemmas.Bool.{cases_Bool, ltb-true, and_parts}
use Rattle.std.proofs.lemmas.Float.{T_from_true}
use Rattle.std.proofs.lemmas.List.{length-append}
use Rattle.x3d_values.specs.Pointing.{PointerView}
use Rattle.x3d_values.specs.Ranges.{is_input_time, max_inputs}
use Rattle.x3d_values.specs.Stamp.{StampedView}
use Rattle.x3d_values.specs.declared.stamped.Cause.{Cause}
use Rattle.x3d_values.specs.declared.stamped.Cause.TheVariants.{Clock, Pointer}
use Rattle.app_jobs.specs.Points.{pointed}
use Rattle.app_jobs.specs.declared.fault.JobFault.{JobFault}
use Rattle.app_jobs.specs.declared.fault.JobFault.TheVariants.{BadJob}
use Rattle.share_rules.specs.Lines.{first_line, behind_line}
use Rattle.cascade_core.specs.InOrder.{Follow, AreInOrder}
use Rattle.app_jobs.specs.Job.{Lined, asked, input_at, last_time, is_taken, clock_time, next_input, with_line, with_scene}
use Rattle.app_jobs.specs.Job.{is_scene, behind_lines, job_lines}
use Rattle.app_jobs.proofs.LineLemmas.{cut}

-- ---- the lines before the first that passes

pub position-cons_no : {A : Type 0} (p : A → Bool) (x : A) (xs : List A) → p x ≡ false → position_or_len p (x ∷ xs) ≡ suc (position_or_len p xs)
position-cons_no p x xs e = rw e (omega arith)

pub before-cons_no : {A : Type 0} (p : A → Bool) (x : A) (xs : List A) → p x ≡ false → before_first p (x ∷ xs) ≡ x ∷ before_first p xs
before-cons_no p x xs e = ap (λ k. take k (x ∷ xs)) (position-cons_no p x xs e)

pub before-cons_yes : {A : Type 0} (p : A → Bool) (x : A) (xs : List A) → p x ≡ true → before_first p (x ∷ xs) ≡ []
before-cons_yes p x xs e = rw e refl

pub any-cons_no : {A : Type 0} (p : A → Bool) (x : A) (xs : List A) → p x ≡ false → list_any p (x ∷ xs) ≡ list_any p xs
any-cons_no p x xs e = rw e refl

pub any-cons_yes : {A : Type 0} (p : A → Bool) (x : A) (xs : List A) → p x ≡ true → list_any p (x ∷ xs) ≡ true
any-cons_yes p x xs e = rw e refl

-- ---- what is left

scened : ℕ → Bool → (ℕ → List ℕ) → List (List ℕ) → List StampedView → Result Lined JobFault
scened number there behind steps given = with_scene (number + (length steps + 1)) there (behind (length steps + 1)) (fold with_line (Ok given) steps)

-- the answer where these inputs were read and these lines are left
pub left : List StampedView → List (List ℕ) → (ℕ → List ℕ) → Result Lined JobFault
left given all behind = scened (length given) (list_any is_scene all) behind (before_first is_scene all) given

pub fold-err : (fault : JobFault) (all : List (List ℕ)) → fold with_line (Err fault) all ≡ Err fault
fold-err fault [] = refl
fold-err fault (line ∷ all) = fold-err fault all

scened-step : (given : List StampedView) (there : Bool) (line : List ℕ) (steps : List (List ℕ)) (behind more : ℕ → List ℕ) (input : StampedView)
    → next_input given line ≡ Some input
    → ((k : ℕ) → behind (suc k) ≡ more k)
    → scened (length given) there behind (line ∷ steps) given ≡ scened (length (given ++ input ∷ [])) there more steps (given ++ input ∷ [])
unfolding scened
scened-step given there line steps behind more input e same =
    let number : length given + (length (line ∷ steps) + 1) ≡ length (given ++ input ∷ []) + (length steps + 1) =
    omega (arith, length-append given (input ∷ [])) in
    let scene : behind (length (line ∷ steps) + 1) ≡ more (length steps + 1) = ap behind (omega arith) ∙ same (length steps + 1) in
    rw (number, scene, e) refl

scened-bad : (given : List StampedView) (there : Bool) (line : List ℕ) (steps : List (List ℕ)) (behind : ℕ → List ℕ) → next_input given line ≡ None
    → scened (length given) there behind (line ∷ steps) given ≡ Err (BadJob (length given + 1))
unfolding scened
scened-bad given there line steps behind e = rw (e, fold-err (BadJob (length given + 1)) steps) refl

left-step : (given : List StampedView) (line : List ℕ) (all : List (List ℕ)) (behind more : ℕ → List ℕ) (input : StampedView) → is_scene line ≡ false
    → next_input given line ≡ Some input
    → ((k : ℕ) → behind (suc k) ≡ more k) → left given (line ∷ all) behind ≡ left (given ++ input ∷ []) all more
unfolding left
left-step given line all behind more input fails e same =
    ap (λ b. scened (length given) b behind (before_first is_scene (line ∷ all)) given) (any-cons_no is_scene line all fails)
    ∙ ap (λ steps. scened (length given) (list_any is_scene all) behind steps given) (before-cons_no is_scene line all fails)
    ∙ scened-step given (list_any is_scene all) line (before_first is_scene all) behind more input e same

left-bad : (given : List StampedView) (line : List ℕ) (all : List (List ℕ)) (behind : ℕ → List ℕ) → is_scene line ≡ false → next_input given line ≡ None
    → left given (line ∷ all) behind ≡ Err (BadJob (length given + 1))
unfolding left
left-bad given line all behind fails e =
    ap (λ steps. scened (length given) (list_any is_scene (line ∷ all)) behind steps given) (before-cons_no is_scene line all fails)
    ∙ scened-bad given (list_any is_scene (line ∷ all)) line (before_first is_scene all) behind e

left-scene : (given : List StampedView) (line : List ℕ) (all : List (List ℕ)) (behind : ℕ → List ℕ) → is_scene line ≡ true
    → left given (line ∷ all) behind ≡ Ok (record { inputs = given; scene = behind 1 })
unfolding left scened
left-scene given line all behind passes =
    ap (λ b. scened (length given) b behind (before_first is_scene (line ∷ all)) given) (any-cons_yes is_scene line all passes)
    ∙ ap (λ steps. scened (length given) true behind steps given) (before-cons_yes is_scene line all passes)

-- ---- the same of a text

abbrev pub left_of : List StampedView → List ℕ → Result Lined JobFault
left_of given text = left given (lines text) (λ n. behind_lines n text)

pub at_start : (bytes : List ℕ) → job_lines bytes ≡ left_of [] bytes
unfolding job_lines left scened
at_start bytes = let steps : List (List ℕ) = before_first is_scene (lines bytes) in
    ap (λ n. with_scene n (list_any is_scene (lines bytes)) (behind_lines (length steps + 1) bytes) (fold with_line (Ok []) steps))
    (sym (zero-add (length steps + 1)))

pub at_end : (given : List StampedView) (text : List ℕ) → length text ≡ 0 → left_of given text ≡ Err (BadJob (length given + 1))
unfolding left scened
at_end given [] h = refl
at_end given (b ∷ text) h = absurd (omega arith)

pub at_step : (given : List StampedView) (text : List ℕ) (input : StampedView) → 0 < length text → is_scene (first_line text) ≡ false
    → next_input given (first_line text) ≡ Some input
    → left_of given text ≡ left_of (given ++ input ∷ []) (behind_line text)
at_step given text input some fails e =
    let c = cut text some in
    ap (λ all. left given all (λ n. behind_lines n text)) c.lines
    ∙ left-step given (first_line text) (lines (behind_line text)) (λ n. behind_lines n text) (λ n. behind_lines n (behind_line text))
    input fails e c.behind

pub at_bad : (given : List StampedView) (text : List ℕ) → 0 < length text → is_scene (first_line text) ≡ false → next_input given (first_line text) ≡ None
    → left_of given text ≡ Err (BadJob (length given + 1))
at_bad given text some fails e =
    let c = cut text some in
    ap (λ all. left given all (λ n. behind_lines n text)) c.lines
    ∙ left-bad given (first_line text) (lines (behind_line text)) (λ n. behind_lines n text) fails e

pub at_scene : (given : List StampedView) (text : List ℕ) → 0 < length text → is_scene (first_line text) ≡ true
    → left_of given text ≡ Ok (record { inputs = given; scene = behind_line text })
at_scene given text some passes =
    let c = cut text some in
    ap (λ all. left given all (λ n. behind_lines n text)) c.lines
    ∙ left-scene given (first_line text) (lines (behind_line text)) (λ n. behind_lines n text) passes
    ∙ ap (λ scene. Ok (record { inputs = given; scene = scene })) c.whole

-- ---- inputs in turn

-- the time of the last, or this time where there is none
last_from : ℤ → List StampedView → ℤ
last_from t [] = t
last_from t (x ∷ xs) = last_from x.time xs

last_from-get : (t : ℤ) (x : StampedView) (xs : List StampedView) (other : ℤ)
    → option_map_or (λ s. s.time) (slice_get (x ∷ xs) (length xs)) other ≡ last_from t (x ∷ xs)
unfolding last_from
last_from-get t x [] other = refl
last_from-get t x (y ∷ ys) other = last_from-get x.time y ys other

front_len : (x : StampedView) (xs : List StampedView) → length (x ∷ xs) - 1 ≡ length xs
front_len x xs = omega arith

last_from-last : (given : List StampedView) → last_time given ≡ last_from (pos 0) given
unfolding last_time last_from
last_from-last [] = refl
last_from-last (x ∷ xs) = ap (λ k. option_map_or (λ s. s.time) (slice_get (x ∷ xs) k) (pos 0)) (front_len x xs) ∙ last_from-get (pos 0) x xs (pos 0)

follow_more : (n : ℕ) (t : ℤ) (xs : List StampedView) (s : StampedView) → Follow n t xs → s.number ≡ n + length xs + 1 → last_from t xs <ℤ s.time
    → Follow n t (xs ++ s ∷ [])
unfolding last_from
follow_more n t [] s h e later = (omega arith, later, tt)
follow_more n t (x ∷ xs) s h e later =
    let first : x.number ≡ n + 1 = h.0 in
    let number : s.number ≡ x.number + length xs + 1 = omega arith in
    (h.0, h.1, follow_more x.number x.time xs s h.2 number later)

-- a host numbers the input behind these
pub record IsNext (given : List StampedView) (input : StampedView) : Type 0 where
  pub number : input.number ≡ length given + 1
  pub few : length given < max_inputs
  pub later : last_time given <ℤ input.time

pub record IsTaken (given : List StampedView) (t : ℤ) (cause : Cause) (input : StampedView) : Type 0 where
  pub next : IsNext given input
  pub time : input.time ≡ t
  pub event_is : input.cause ≡ cause
  pub in_range : is_input_time input.time ≡ true

pub taken_from : (given : List StampedView) (t : ℤ) (cause : Cause) (input : StampedView) → input_at given t cause ≡ Some input → IsTaken given t cause input
taken_from given t cause input e = elim (cases_Bool (is_taken given t)) [
  | inl passes ↦
      let some = rw passes at e in
      let same : record { number = length given + 1; time = t; cause = cause } ≡ input = cc in
      let time : t ≡ input.time = ap (λ (s : StampedView). s.time) same in
      let tests = and_parts _ _ passes in
      let later = and_parts _ _ tests.1 in
      record {
        next = record {
          number = sym (ap (λ (s : StampedView). s.number) same);
          few = ltb-true (length given) max_inputs tests.0;
          later = record { lt = T_from_true _ (rw (← time) later.0) };
        };
        time = sym time;
        event_is = sym (ap (λ (s : StampedView). s.cause) same);
        in_range = rw (← time) later.1;
      }
  | inr fails ↦ let none = rw fails at e in absurd (cc)
]

next_from : (given : List StampedView) (time : Option ℤ) (p : Option PointerView) (input : StampedView) → asked given time p ≡ Some input → IsNext given input
next_from given None None input e = absurd (cc)
next_from given None (Some p) input e = (taken_from given (last_time given +ℤ pos 1) (Pointer p) input e).next
next_from given (Some t) p input e = (taken_from given t Clock input e).next

pub next_is : (given : List StampedView) (line : List ℕ) (input : StampedView) → next_input given line ≡ Some input → IsNext given input
unfolding next_input
next_is given line input e = next_from given (clock_time line) (pointed line) input e

-- the time of the last is that of the one behind
last_from-push : (t : ℤ) (given : List StampedView) (input : StampedView) → last_from t (given ++ input ∷ []) ≡ input.time
unfolding last_from
last_from-push t [] input = refl
last_from-push t (x ∷ xs) input = last_from-push x.time xs input

pub last_time-push : (given : List StampedView) (input : StampedView) → last_time (given ++ input ∷ []) ≡ input.time
last_time-push given input = last_from-last (given ++ input ∷ []) ∙ last_from-push (pos 0) given input

pub in_order_more : (given : List StampedView) (input : StampedView) → AreInOrder given → IsNext given input → AreInOrder (given ++ input ∷ [])
in_order_more given input h next =
    let number : input.number ≡ 0 + length given + 1 = omega (arith, next.number) in
    let later : last_from (pos 0) given <ℤ input.time = rw (last_from-last given) at next.later in
    follow_more 0 (pos 0) given input h number later

-- ---- a turn of the loop, by the line that was cut off

pub scene_found : (bytes : List ℕ) (given : List StampedView) (text line behind : List ℕ) → job_lines bytes ≡ left_of given text → 0 < length text
    → line ≡ first_line text → behind ≡ behind_line text → is_scene line ≡ true → job_lines bytes ≡ Ok (record { inputs = given; scene = behind })
scene_found bytes given text line behind answer some at_line at_behind passes =
    answer ∙ at_scene given text some (rw at_line at passes) ∙ ap (λ scene. Ok (record { inputs = given; scene = scene })) (sym at_behind)

pub step_refused : (bytes : List ℕ) (given : List StampedView) (text line : List ℕ) → job_lines bytes ≡ left_of given text → 0 < length text
    → line ≡ first_line text → is_scene line ≡ false → next_input given line ≡ None → job_lines bytes ≡ Err (BadJob (length given + 1))
step_refused bytes given text line answer some at_line fails e = answer ∙ at_bad given text some (rw at_line at fails) (rw at_line at e)

pub step_taken : (bytes : List ℕ) (given : List StampedView) (text line behind : List ℕ) (input : StampedView) → job_lines bytes ≡ left_of given text
    → 0 < length text
    → line ≡ first_line text → behind ≡ behind_line text → is_scene line ≡ false → next_input given line ≡ Some input
    → job_lines bytes ≡ left_of (given ++ input ∷ []) behind
step_taken bytes given text line behind input answer some at_line at_behind fails e =
    answer ∙ at_step given text input some (rw at_line at fails) (rw at_line at e) ∙ ap (λ t. left_of (given ++ input ∷ []) t) (sym at_behind)

pub few_more : (given : List StampedView) (input : StampedView) → IsNext given input → length (given ++ input ∷ []) ≤ max_inputs
few_more given input next = omega (arith, length-append given (input ∷ []), next.few)
