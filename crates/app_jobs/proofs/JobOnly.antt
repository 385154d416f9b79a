-- A line of a job is one step at most, and bytes that are a job are answered as it.
use Rattle.std.proofs.Common.{◌≡◌, ℕ, ◌+◌, ◌<◌, ◌<ℤ◌, ◌==◌, ℤ, pos, List, [], ◌∷◌, ◌++◌, length, true, false, codes}
use Rattle.std.proofs.Common.{Option, Some, None, Ok, refl, sym, ap, ◌∙◌, inl, inr, arith, append_assoc, append-nil}
use Rattle.std.specs.Prelude.{int_lt, if◌then◌else◌}
use Rattle.std.specs.Result.{result_ok}
use Rattle.std.specs.List.{fold, list_any, before_first}
use Rattle.std.specs.Str.Lines.{lines}
use Rattle.std.specs.Cmp.Lexicographic.{same_text}
use Rattle.std.proofs.lemmas.Bool.{cases_Bool, lt-ltb, ltb-true}
use Rattle.std.proofs.lemmas.Int.{ints}
use Rattle.std.proofs.lemmas.List.{length-append}
use Rattle.x3d_numerals.specs.Reading.{numeral}
use Rattle.x3d_numerals.proofs.Numerals.{numeral_complete}
use Rattle.x3d_values.specs.Pointing.{PointerView, RayView, is_ray}
use Rattle.x3d_values.specs.Ranges.{max_inputs, max_viewers}
use Rattle.x3d_values.specs.Stamp.{StampedView}
use Rattle.x3d_values.specs.declared.stamped.Cause.{Cause}
use Rattle.x3d_values.specs.declared.stamped.Cause.TheVariants.{Clock, Pointer}
use Rattle.app_jobs.specs.Job.{AreSteps, IsClock, IsJob, IsJobStep, IsNumbered, IsPointed, Lined, asked, behind_lines, clock_time, input_at, is_scene, is_taken, job_lines, last_time, next_input, with_line, with_next}
use Rattle.app_jobs.specs.Points.{word, behind, number_below, vector_of, sight_of, pointing_of, pointed, IsPoint}
use Rattle.app_jobs.proofs.JobLemmas.{before-cons_no, before-cons_yes, any-cons_no, any-cons_yes, last_time-push}
use Rattle.app_jobs.proofs.SpaceLemmas.{Spaceless, word_is, behind_is, numeral_is}
use Rattle.app_jobs.proofs.OnlyNumbers.{number_is, vector_is}
use Rattle.app_jobs.proofs.OnlyLemmas.{bit_low, bit_is}

-- ---- a line by which a viewer points

sight_at : (text y z d dy dz : List ℕ) (s : RayView) → behind text ≡ y → behind y ≡ z → behind z ≡ d → behind d ≡ dy → behind dy ≡ dz
    → vector_of (word text) (word y) (word z) ≡ Some s.origin → vector_of (word d) (word dy) dz ≡ Some s.dir → is_ray s ≡ true
    → sight_of text ≡ Some s
unfolding sight_of
sight_at text y z d dy dz s at_y at_z at_d at_dy at_dz o_is v_is ray = rw (at_y, at_z, at_d, at_dy, at_dz, o_is, v_is, ray) refl

pointing_at : (text a b : List ℕ) (p : PointerView) (n : ℕ) → behind text ≡ a → behind a ≡ b → number_below max_viewers (word text) ≡ Some p.who
    → number_below 2 (word a) ≡ Some n → (n == 1) ≡ p.down → sight_of b ≡ Some p.ray → pointing_of text ≡ Some p
unfolding pointing_of
pointing_at text a b p n at_a at_b who down button ray = rw (at_a, at_b, who, down, ray, button) refl

pointed_at : (line text : List ℕ) → line ≡ codes "point " ++ text → pointed line ≡ pointing_of text
unfolding pointed
pointed_at line text is = rw is refl

no_clock : (line text : List ℕ) → line ≡ codes "point " ++ text → clock_time line ≡ None
unfolding clock_time
no_clock line text is = rw is refl

pointed_only : (line : List ℕ) (p : PointerView) → IsPoint line p → pointed line ≡ Some p
pointed_only line p h =
    let dy : List ℕ = h.dy ++ (32 ∷ h.dz) in
    let d : List ℕ = h.dx ++ (32 ∷ dy) in
    let z : List ℕ = h.oz ++ (32 ∷ d) in
    let y : List ℕ = h.oy ++ (32 ∷ z) in
    let b : List ℕ = h.ox ++ (32 ∷ y) in
    let a : List ℕ = h.down ++ (32 ∷ b) in
    let text : List ℕ = h.who ++ (32 ∷ a) in
    let who : Spaceless h.who = numeral_is h.who (pos h.viewer.millionths) h.viewer.numeral in
    let down : Spaceless h.down = numeral_is h.down (pos h.button.millionths) h.button.numeral in
    let ox : Spaceless h.ox = numeral_is h.ox p.ray.origin.x h.origin.x_is in
    let oy : Spaceless h.oy = numeral_is h.oy p.ray.origin.y h.origin.y_is in
    let oz : Spaceless h.oz = numeral_is h.oz p.ray.origin.z h.origin.z_is in
    let dx : Spaceless h.dx = numeral_is h.dx p.ray.dir.x h.direction.x_is in
    let dy_apart : Spaceless h.dy = numeral_is h.dy p.ray.dir.y h.direction.y_is in
    let n : ℕ = if p.down then 1 else 0 in
    let low : p.who < max_viewers = ltb-true p.who max_viewers h.is_viewer in
    let who_is : number_below max_viewers (word text) ≡ Some p.who =
    ap (λ w. number_below max_viewers w) (word_is h.who a who) ∙ number_is max_viewers h.who p.who h.viewer low in
    let down_is : number_below 2 (word a) ≡ Some n = ap (λ w. number_below 2 w) (word_is h.down b down) ∙ number_is 2 h.down n h.button (bit_low p.down) in
    let o_is : vector_of (word b) (word y) (word z) ≡ Some p.ray.origin =
    ap (λ w. vector_of w (word y) (word z)) (word_is h.ox y ox)
    ∙ (ap (λ w. vector_of h.ox w (word z)) (word_is h.oy z oy)
    ∙ (ap (λ w. vector_of h.ox h.oy w) (word_is h.oz d oz) ∙ vector_is h.ox h.oy h.oz p.ray.origin h.origin)) in
    let v_is : vector_of (word d) (word dy) h.dz ≡ Some p.ray.dir =
    ap (λ w. vector_of w (word dy) h.dz) (word_is h.dx dy dx)
    ∙ (ap (λ w. vector_of h.dx w h.dz) (word_is h.dy h.dz dy_apart) ∙ vector_is h.dx h.dy h.dz p.ray.dir h.direction) in
    let seen : sight_of b ≡ Some p.ray =
    sight_at b y z d dy h.dz p.ray (behind_is h.ox y ox) (behind_is h.oy z oy) (behind_is h.oz d oz) (behind_is h.dx dy dx) (behind_is h.dy h.dz dy_apart) o_is v_is
    h.is_ray in
    pointed_at line text h.words
    ∙ pointing_at text a b p n (behind_is h.who a who) (behind_is h.down b down) who_is down_is (bit_is p.down) seen

-- ---- a step

clock_only : (line text : List ℕ) (t : ℤ) → line ≡ codes "clock " ++ text → numeral text ≡ Ok t → clock_time line ≡ Some t
unfolding clock_time
clock_only line text t is e = rw is (ap (λ r. result_ok r) e)

clock_is : (line : List ℕ) (input : StampedView) → IsClock line input → clock_time line ≡ Some input.time
clock_is line input h = clock_only line h.text input.time h.is (numeral_complete h.text input.time h.time)

stamp_is : (a b : StampedView) → a.number ≡ b.number → a.time ≡ b.time → a.cause ≡ b.cause → a ≡ b
stamp_is a b number time cause = rw (number, time, cause) refl

-- a clock is no pointer
not_both : (line : List ℕ) (a b : StampedView) (before : ℤ) → IsClock line a → IsPointed before line b → ⊥
not_both line a b before h k =
    let both : Some a.time ≡ None = sym (clock_is line a h) ∙ no_clock line _ k.words.words in
    absurd (cc)

pub one_step : (given : ℕ) (before : ℤ) (line : List ℕ) (a b : StampedView) → IsJobStep given before line a → IsJobStep given before line b → a ≡ b
one_step given before line a b h k =
    let number : a.number ≡ b.number = h.numbered.number ∙ sym k.numbered.number in
    elim h.says [
      | inl c ↦ elim k.says [
        | inl d ↦
            let both : Some a.time ≡ Some b.time = sym (clock_is line a c) ∙ clock_is line b d in
            let time : a.time ≡ b.time = cc in
            stamp_is a b number time (c.cause ∙ sym d.cause)
        | inr d ↦ absurd (not_both line a b before c d)
      ]
      | inr c ↦ elim k.says [
        | inl d ↦ absurd (not_both line b a before d c)
        | inr d ↦
            let both : Some c.pointing ≡ Some d.pointing = sym (pointed_only line c.pointing c.words) ∙ pointed_only line d.pointing d.words in
            let same : c.pointing ≡ d.pointing = cc in
            stamp_is a b number (c.time ∙ sym d.time) (c.cause ∙ ap Pointer same ∙ sym d.cause)
      ]
    ]

-- ---- the input that it gives

later_is : (a b : ℤ) → a <ℤ b → int_lt a b ≡ true
later_is a b h = grind (arith, ints)

taken_by : (given : List StampedView) (input : StampedView) → IsNumbered (length given) (last_time given) input → is_taken given input.time ≡ true
taken_by given input h = rw (lt-ltb (length given) max_inputs h.few, later_is (last_time given) input.time h.later, h.in_range) refl

input_is : (given : List StampedView) (input : StampedView) (cause : Cause) → IsNumbered (length given) (last_time given) input → input.cause ≡ cause
    → input_at given input.time cause ≡ Some input
input_is given input cause h is =
    rw (taken_by given input h) (ap Some (stamp_is (record { number = length given + 1; time = input.time; cause = cause }) input (sym h.number) refl (sym is)))

asks_for : (given : List StampedView) (line : List ℕ) (time : Option ℤ) (p : Option PointerView) → clock_time line ≡ time → pointed line ≡ p
    → next_input given line ≡ asked given time p
unfolding next_input
asks_for given line time p at_time at_point = rw (at_time, at_point) refl

next_only : (given : List StampedView) (line : List ℕ) (input : StampedView) → IsJobStep (length given) (last_time given) line input → next_input given line ≡ Some input
next_only given line input h = elim h.says [
  | inl c ↦ asks_for given line (Some input.time) (pointed line) (clock_is line input c) refl ∙ input_is given input Clock h.numbered c.cause
  | inr p ↦
      asks_for given line None (Some p.pointing) (no_clock line _ p.words.words) (pointed_only line p.pointing p.words)
      ∙ ap (λ t. input_at given t (Pointer p.pointing)) (sym p.time) ∙ input_is given input (Pointer p.pointing) h.numbered p.cause
]

-- ---- the steps

-- a step is no line `scene`
scene_is_none : clock_time (codes "scene") ≡ None
unfolding clock_time
scene_is_none = refl

scene_points_none : pointed (codes "scene") ≡ None
unfolding pointed
scene_points_none = refl

no_scene : (given : ℕ) (before : ℤ) (line : List ℕ) (input : StampedView) → IsJobStep given before line input → is_scene line ≡ false
no_scene given before line input h = elim (cases_Bool (is_scene line)) [
  | inl scene ↦
      let is : line ≡ codes "scene" = same_text line (codes "scene") (sym scene) in
      elim h.says [
        | inl c ↦
            let none : None ≡ Some input.time = sym scene_is_none ∙ ap clock_time (sym is) ∙ clock_is line input c in
            absurd (cc)
        | inr p ↦
            let none : None ≡ Some p.pointing = sym scene_points_none ∙ ap pointed (sym is) ∙ pointed_only line p.pointing p.words in
            absurd (cc)
      ]
  | inr other ↦ other
]

-- the lines before the first that is `scene`
record AreBefore (all steps : List (List ℕ)) : Type 0 where
  before : before_first is_scene all ≡ steps
  there : list_any is_scene all ≡ true

before_scene : (given : ℕ) (before : ℤ) (steps rest : List (List ℕ)) (inputs : List StampedView) → AreSteps given before steps inputs
    → AreBefore (steps ++ codes "scene" ∷ rest) steps
before_scene given before [] rest inputs h = record {
  before = before-cons_yes is_scene (codes "scene") rest refl;
  there = any-cons_yes is_scene (codes "scene") rest refl;
}
before_scene given before (line ∷ steps) rest [] h = absurd h
before_scene given before (line ∷ steps) rest (input ∷ inputs) h =
    let other : is_scene line ≡ false = no_scene given before line input h.0 in
    let more = before_scene (given + 1) input.time steps rest inputs h.1 in
    let all : List (List ℕ) = steps ++ codes "scene" ∷ rest in
    record {
      before = before-cons_no is_scene line all other ∙ ap (λ l. line ∷ l) more.before;
      there = any-cons_no is_scene line all other ∙ more.there;
    }

inputs_only : (given : List StampedView) (steps : List (List ℕ)) (inputs : List StampedView) → AreSteps (length given) (last_time given) steps inputs
    → fold with_line (Ok given) steps ≡ Ok (given ++ inputs)
inputs_only given [] [] h = ap Ok (sym (append-nil given))
inputs_only given [] (input ∷ inputs) h = absurd h
inputs_only given (line ∷ steps) [] h = absurd h
inputs_only given (line ∷ steps) (input ∷ inputs) h =
    let next : next_input given line ≡ Some input = next_only given line input h.0 in
    let more : AreSteps (length (given ++ input ∷ [])) (last_time (given ++ input ∷ [])) steps inputs =
    rw (last_time-push given input, length-append given (input ∷ [])) h.1 in
    ap (λ o. fold with_line (with_next given o) steps) next
    ∙ inputs_only (given ++ input ∷ []) steps inputs more ∙ ap Ok (append_assoc given (input ∷ []) inputs)

begins : (steps : List (List ℕ)) (inputs : List StampedView) → AreSteps 0 (pos 0) steps inputs → AreSteps (length {A = StampedView} []) (last_time []) steps inputs
unfolding last_time
begins steps inputs h = h

-- ---- the whole

answered : (bytes : List ℕ) (all steps : List (List ℕ)) (job : Lined) → lines bytes ≡ all → AreBefore all steps
    → fold with_line (Ok []) steps ≡ Ok job.inputs → job.scene ≡ behind_lines (length steps + 1) bytes → job_lines bytes ≡ Ok job
unfolding job_lines
answered bytes all steps job are b inputs scene = rw (are, b.before, b.there, inputs, ← scene) refl

pub only : (bytes : List ℕ) (job : Lined) → IsJob bytes job → job_lines bytes ≡ Ok job
only bytes job h =
    let all : List (List ℕ) = h.steps ++ codes "scene" ∷ h.rest in
    let start : AreSteps (length {A = StampedView} []) (last_time []) h.steps job.inputs = begins h.steps job.inputs h.each in
    answered bytes all h.steps job h.lines (before_scene 0 (pos 0) h.steps h.rest job.inputs h.each) (inputs_only [] h.steps job.inputs start) h.scene
