-- A job: lines of steps, a line `scene`, then the scene (our choice).
use Rattle.std.specs.Prelude.{◌≡◌, ℕ, ◌+◌, ◌-◌, ◌<◌, ◌&&◌, nat_lt, ℤ, pos, ◌+ℤ◌, ◌<ℤ◌, int_lt, ⊤, ◌⊎◌, Bool, true, List, [], ◌∷◌, ◌++◌, length, take, drop, slice_get}
use Rattle.std.specs.Prelude.{codes, Option, Some, None, Result, Ok, Err, if◌then◌else◌}
use Rattle.std.specs.Option.{option_map_or}
use Rattle.std.specs.Result.{result_ok}
use Rattle.std.specs.List.{fold, list_any, before_first, slice_split, join_with_byte}
use Rattle.std.specs.Str.{bytes_eq}
use Rattle.std.specs.Str.Lines.{lines}
use Rattle.x3d_numerals.specs.Numeral.{IsNumeral}
use Rattle.x3d_numerals.specs.Reading.{numeral}
use Rattle.x3d_values.specs.Ranges.{is_input_time, max_inputs}
use Rattle.x3d_values.specs.Stamp.{StampedView}
use Rattle.x3d_values.specs.Pointing.{PointerView}
use Rattle.x3d_values.specs.declared.stamped.Cause.{Cause}
use Rattle.x3d_values.specs.declared.stamped.Cause.TheVariants.{Clock, Pointer}
use Rattle.app_jobs.specs.declared.fault.JobFault.{JobFault}
use Rattle.app_jobs.specs.declared.fault.JobFault.TheVariants.{BadJob}
use Rattle.share_rules.specs.Lines.{is_lf}
use Rattle.app_jobs.specs.Points.{IsPoint, pointed}

-- ---- a step

-- the time of a line `clock T` in microseconds, where T is a numeral of seconds
unfoldable pub clock_time : List ℕ → Option ℤ
clock_time line = if bytes_eq (take 6 line) (codes "clock ") then result_ok (numeral (drop 6 line))
    else None

-- the time of the last input, or 0 if there is none
unfoldable pub last_time : List StampedView → ℤ
last_time inputs = option_map_or (λ s. s.time) (slice_get inputs (length inputs - 1)) (pos 0)

-- a host numbers an input of this time after these inputs: there are fewer than 2^48 - 1 of them,
-- the time is later than theirs, and it is in range
abbrev pub is_taken : List StampedView → ℤ → Bool
is_taken inputs t =
    nat_lt (length inputs) max_inputs && (int_lt (last_time inputs) t && is_input_time t)

-- the input of this time and cause after these inputs, if a host numbers it
abbrev pub input_at : List StampedView → ℤ → Cause → Option StampedView
input_at inputs t cause =
    if is_taken inputs t
    then Some (record { number = length inputs + 1; time = t; cause = cause })
    else None

-- the input of a line: a clock has its own time; a viewer points one microsecond after the last
-- input
abbrev pub asked : List StampedView → Option ℤ → Option PointerView → Option StampedView
asked inputs (Some t) p = input_at inputs t Clock
asked inputs None (Some p) = input_at inputs (last_time inputs +ℤ pos 1) (Pointer p)
asked inputs None None = None

-- the input that a line asks for after these inputs
unfoldable pub next_input : List StampedView → List ℕ → Option StampedView
next_input inputs line = asked inputs (clock_time line) (pointed line)

-- ---- the steps

-- the inputs with the next one, or the line that isn't a step. Each line adds one input, so that
-- line has the number of the next input
abbrev pub with_next : List StampedView → Option StampedView → Result (List StampedView) JobFault
with_next inputs None = Err (BadJob (length inputs + 1))
with_next inputs (Some input) = Ok (inputs ++ input ∷ [])

abbrev pub with_line : Result (List StampedView) JobFault → List ℕ
    → Result (List StampedView) JobFault
with_line (Ok inputs) line = with_next inputs (next_input inputs line)
with_line (Err fault) line = Err fault

-- the inputs of lines, or the first line that isn't a step
abbrev pub inputs_of : List (List ℕ) → Result (List StampedView) JobFault
inputs_of all = fold with_line (Ok []) all

-- ---- the job

abbrev pub is_scene : List ℕ → Bool
is_scene line = bytes_eq line (codes "scene")

-- the inputs of a job, and the bytes of its scene
pub record Lined : Type 0 where
  pub inputs : List StampedView
  pub scene : List ℕ

-- the job of these inputs and this scene, if there is a line `scene`; else the line `scene` is
-- missing at this line
abbrev pub with_scene : ℕ → Bool → List ℕ → Result (List StampedView) JobFault
    → Result Lined JobFault
with_scene line there scene (Ok inputs) =
    if there then Ok (record { inputs = inputs; scene = scene }) else Err (BadJob line)
with_scene line there scene (Err fault) = Err fault

-- the bytes after the first n lines
abbrev pub behind_lines : ℕ → List ℕ → List ℕ
behind_lines n bytes = join_with_byte 10 (drop n (slice_split is_lf bytes))

-- the job of a byte list: the steps before the first line `scene` in order, and the bytes after
-- that line. If there is no such line, it is missing after the last line
unfoldable pub job_lines : List ℕ → Result Lined JobFault
job_lines bytes =
    let steps = before_first is_scene (lines bytes) in
    with_scene (length steps + 1) (list_any is_scene (lines bytes))
    (behind_lines (length steps + 1) bytes) (inputs_of steps)

-- -- what inputs satisfy

-- the line is `clock T`, and T is a numeral of seconds: the input's time in microseconds
pub record IsClock (line : List ℕ) (input : StampedView) : Type 0 where
  pub text : List ℕ
  pub is : line ≡ codes "clock " ++ text
  pub time : IsNumeral text input.time
  pub cause : input.cause ≡ Clock

-- the line is one by which a viewer points, and the input is one microsecond after this time
pub record IsPointed (before : ℤ) (line : List ℕ) (input : StampedView) : Type 0 where
  pub pointing : PointerView
  pub words : IsPoint line pointing
  pub time : input.time ≡ before +ℤ pos 1
  pub cause : input.cause ≡ Pointer pointing

-- a host numbers the input after this number of inputs, the last of which has this time
pub record IsNumbered (given : ℕ) (before : ℤ) (input : StampedView) : Type 0 where
  pub number : input.number ≡ given + 1
  pub few : given < max_inputs
  pub later : before <ℤ input.time
  pub in_range : is_input_time input.time ≡ true

-- the line is a step after this number of inputs, the last of which has this time, and gives the
-- input
pub record IsJobStep (given : ℕ) (before : ℤ) (line : List ℕ) (input : StampedView) : Type 0 where
  pub says : IsClock line input ⊎ IsPointed before line input
  pub numbered : IsNumbered given before input

-- each line is a step, and gives one input
abbrev pub AreSteps : ℕ → ℤ → List (List ℕ) → List StampedView → Type 0
AreSteps given before [] [] = ⊤
AreSteps given before (line ∷ lines) (input ∷ inputs) =
    IsJobStep given before line input × AreSteps (given + 1) input.time lines inputs
AreSteps given before [] (input ∷ inputs) = ⊥
AreSteps given before (line ∷ lines) [] = ⊥

-- the bytes are a line for each input, a line `scene`, and the scene
pub record IsJob (bytes : List ℕ) (job : Lined) : Type 0 where
  pub steps : List (List ℕ)
  pub rest : List (List ℕ)
  pub lines : lines bytes ≡ steps ++ codes "scene" ∷ rest
  pub each : AreSteps 0 (pos 0) steps job.inputs
  pub scene : job.scene ≡ behind_lines (length steps + 1) bytes
