-- A schedule: lines of steps of a network, a line `scene`, then the scene (our choice).
use Rattle.std.specs.Prelude.{◌≡◌, ℕ, suc, ◌+◌, ◌-◌, ◌^◌, ◌<◌, ◌==◌, nat_lt, ℤ, ⊤}
use Rattle.std.specs.Prelude.{List, [], ◌∷◌, ◌++◌, length, codes}
use Rattle.std.specs.Prelude.{Option, Some, None, Result, Ok, Err, if◌then◌else◌}
use Rattle.std.specs.Option.{option_map, option_or}
use Rattle.std.specs.Result.{result_ok}
use Rattle.std.specs.List.{join_with_byte}
use Rattle.std.specs.Str.{bytes_eq}
use Rattle.std.specs.Str.Lines.{lines}
use Rattle.x3d_numerals.specs.Numeral.{IsNumeral}
use Rattle.x3d_numerals.specs.Reading.{numeral}
use Rattle.x3d_values.specs.declared.vector.Vec3.{Vec3}
use Rattle.x3d_values.specs.declared.pointing.Point.{Point}
use Rattle.share_law.specs.declared.step.Step.{Step}
use Rattle.share_law.specs.declared.step.Step.TheVariants.{HostClock, HostPacket, HostAck, HostTake}
use Rattle.share_law.specs.declared.step.Step.TheVariants.{ViewerOffer, ViewerResend, ViewerAsk}
use Rattle.share_law.specs.declared.step.Step.TheVariants.{ViewerTake, ViewerSave, ViewerRewind}
use Rattle.share_law.specs.declared.step.Step.TheVariants.{HostDropBelow, HostFloorPacket}
use Rattle.share_law.specs.declared.step.Step.TheVariants.{PiecePacket, ViewerGather, ViewerJoin, ViewerForget}
use Rattle.app_jobs.specs.Points.{word, behind, number_below, vector_of, IsNumber, AreNumerals}
use Rattle.app_jobs.specs.Job.{is_scene, behind_lines}
use Rattle.app_jobs.specs.declared.fault.JobFault.{JobFault}
use Rattle.app_jobs.specs.declared.fault.JobFault.TheVariants.{BadJob}
use Rattle.app_jobs.specs.declared.schedule.Schedule.{Schedule}

-- -- the words after a name

-- a number in decimal digits, if it is below 2^32
unfoldable pub number : List ℕ → Option ℕ
number text = number_below (2 ^ 32) text

-- the clock of a time in seconds; the step has it in microseconds
unfoldable pub clock_step : List ℕ → Option Step
clock_step text = option_map (λ t. HostClock t) (result_ok (numeral text))

-- who takes the packet of this number: the host, or the viewer of this number
abbrev pub given : Option ℕ → List ℕ → Option Step
given (Some packet) who =
    if bytes_eq who (codes "host") then Some (HostTake packet)
    else option_map (λ viewer. ViewerTake viewer packet) (number who)
given None who = None

unfoldable pub give_step : List ℕ → Option Step
give_step text = given (number (word text)) (behind text)

abbrev pub paired : Option ℕ → Option ℕ → Option (ℕ × ℕ)
paired (Some first) (Some second) = Some (first, second)
paired (Some first) None = None
paired None second = None

-- the two numbers of a text
unfoldable pub two_numbers : List ℕ → Option (ℕ × ℕ)
two_numbers text = paired (number (word text)) (number (behind text))

abbrev pub rewound : Option ℕ → Option ℕ → Option ℕ → Option Step
rewound (Some viewer) (Some snapshot) (Some boot) = Some (ViewerRewind viewer snapshot boot)
rewound (Some viewer) (Some snapshot) None = None
rewound (Some viewer) None boot = None
rewound None snapshot boot = None

unfoldable pub rewind_step : List ℕ → Option Step
rewind_step text =
    let rest = behind text in
    rewound (number (word text)) (number (word rest)) (number (behind rest))

abbrev pub point : Option ℕ → Option Vec3 → Option Vec3 → Option Point
point (Some down) (Some origin) (Some dir) =
    Some (record { down = down == 1; origin = origin; dir = dir })
point (Some down) (Some origin) None = None
point (Some down) None dir = None
point None origin dir = None

-- whether the button is down, and six numerals; the last is the rest of the text
unfoldable pub read_point : List ℕ → Option Point
read_point text =
    let x = behind text in
    let y = behind x in
    let z = behind y in
    let dir = behind z in
    let dir_y = behind dir in
    point (number_below 2 (word text)) (vector_of (word x) (word y) (word z))
    (vector_of (word dir) (word dir_y) (behind dir_y))

abbrev pub offered : Option ℕ → Option Point → Option Step
offered (Some viewer) (Some point) = Some (ViewerOffer viewer point)
offered (Some viewer) None = None
offered None point = None

unfoldable pub offer_step : List ℕ → Option Step
offer_step text = offered (number (word text)) (read_point (behind text))

-- ---- the line

-- the step of a name and the words after it, if it is a step of the host or of a packet
unfoldable pub host_step : List ℕ → List ℕ → Option Step
host_step name text =
    if bytes_eq name (codes "clock") then clock_step text
    else (if bytes_eq name (codes "packet") then option_map (λ n. HostPacket n) (number text)
    else (if bytes_eq name (codes "ack") then option_map (λ v. HostAck v) (number text)
    else (if bytes_eq name (codes "give") then give_step text
    else (if bytes_eq name (codes "floor") then option_map (λ f. HostDropBelow f) (number text)
    else None))))

-- like `host_step`, for steps of a viewer
unfoldable pub viewer_step : List ℕ → List ℕ → Option Step
viewer_step name text =
    if bytes_eq name (codes "offer") then offer_step text
    else (if bytes_eq name (codes "resend") then
    option_map (λ p. ViewerResend p.0 p.1) (two_numbers text)
    else (if bytes_eq name (codes "ask") then option_map (λ v. ViewerAsk v) (number text)
    else (if bytes_eq name (codes "save") then option_map (λ v. ViewerSave v) (number text)
    else (if bytes_eq name (codes "rewind") then rewind_step text else None))))

-- like `host_step`, for steps about pieces of a snapshot
unfoldable pub piece_step : List ℕ → List ℕ → Option Step
piece_step name text =
    if bytes_eq name (codes "piece") then option_map (λ p. PiecePacket p.0 p.1) (two_numbers text)
    else (if bytes_eq name (codes "gather") then
    option_map (λ p. ViewerGather p.1 p.0) (two_numbers text)
    else (if bytes_eq name (codes "join") then
    option_map (λ p. ViewerJoin p.0 p.1) (two_numbers text)
    else (if bytes_eq name (codes "forget") then option_map (λ v. ViewerForget v) (number text)
    else None)))

abbrev pub named_step : List ℕ → List ℕ → Option Step
named_step name text =
    option_or (host_step name text) (option_or (viewer_step name text) (piece_step name text))

-- the step of a line, if there is one; `notice` has no words after it
unfoldable pub step_of : List ℕ → Option Step
step_of line =
    if bytes_eq line (codes "notice") then Some HostFloorPacket
    else named_step (word line) (behind line)

-- ---- the schedule

-- the number of the line after n lines, but at most 2^32 - 1
abbrev pub line_behind : ℕ → ℕ
line_behind n = if nat_lt n (2 ^ 32 - 1) then n + 1 else 2 ^ 32 - 1

-- a step before others; or, if there is no step, the line after n lines
abbrev pub with_step : ℕ → Option Step → Result (List Step) JobFault → Result (List Step) JobFault
with_step n (Some step) (Ok steps) = Ok (step ∷ steps)
with_step n (Some step) (Err fault) = Err fault
with_step n None steps = Err (BadJob (line_behind n))

-- the steps before the first line `scene`, or the first line that is not a step; n lines precede
-- these
abbrev pub steps_of : ℕ → List (List ℕ) → Result (List Step) JobFault
steps_of n [] = Err (BadJob (line_behind n))
steps_of n (line ∷ more) =
    if is_scene line then Ok [] else with_step n (step_of line) (steps_of (suc n) more)

-- the schedule of these steps and the bytes after the line `scene`
abbrev pub with_bytes : List ℕ → Result (List Step) JobFault → Result Schedule JobFault
with_bytes bytes (Ok steps) =
    Ok (record { steps = steps; scene = behind_lines (length steps + 1) bytes })
with_bytes bytes (Err fault) = Err fault

-- the schedule of a byte list. If there is no line `scene`, it is missing after the last line
unfoldable pub schedule_lines : List ℕ → Result Schedule JobFault
schedule_lines bytes = with_bytes bytes (steps_of 0 (lines bytes))

-- -- what a line satisfies

-- words parted by single spaces
abbrev pub spaced : List (List ℕ) → List ℕ
spaced words = join_with_byte 32 words

-- the texts are decimal digits of these numbers, all below 2^32
abbrev pub AreNumbers : List (List ℕ) → List ℕ → Type 0
AreNumbers [] [] = ⊤
AreNumbers (text ∷ texts) (n ∷ numbers) =
    IsNumber text n × (n < 2 ^ 32) × AreNumbers texts numbers
AreNumbers [] (n ∷ numbers) = ⊥
AreNumbers (text ∷ texts) [] = ⊥

-- the line is a name and numbers
pub record IsCall (line name : List ℕ) (numbers : List ℕ) : Type 0 where
  pub texts : List (List ℕ)
  pub words : line ≡ spaced (name ∷ texts)
  pub each : AreNumbers texts numbers

-- the line is `clock T`, and T is a numeral of seconds: the time in microseconds
pub record IsClockAt (line : List ℕ) (t : ℤ) : Type 0 where
  pub text : List ℕ
  pub words : line ≡ spaced (codes "clock" ∷ text ∷ [])
  pub time : IsNumeral text t

-- the line is `give P host`
pub record IsGivenHost (line : List ℕ) (packet : ℕ) : Type 0 where
  pub text : List ℕ
  pub words : line ≡ spaced (codes "give" ∷ text ∷ codes "host" ∷ [])
  pub number : AreNumbers (text ∷ []) (packet ∷ [])

-- the line is `offer V D ox oy oz dx dy dz`; any numerals make a point
pub record IsOffer (line : List ℕ) (viewer : ℕ) (p : Point) : Type 0 where
  pub who : List ℕ
  pub down : List ℕ
  pub ox : List ℕ
  pub oy : List ℕ
  pub oz : List ℕ
  pub dx : List ℕ
  pub dy : List ℕ
  pub dz : List ℕ
  pub words :
      line
      ≡ spaced
      (codes "offer" ∷ who ∷ down ∷ ox ∷ oy ∷ oz ∷ dx ∷ dy ∷ dz ∷ [])
  pub viewer_is : AreNumbers (who ∷ []) (viewer ∷ [])
  pub button : IsNumber down (if p.down then 1 else 0)
  pub origin : AreNumerals ox oy oz p.origin
  pub direction : AreNumerals dx dy dz p.dir

-- the line spells the step
abbrev pub IsStepLine : List ℕ → Step → Type 0
IsStepLine line (HostClock t) = IsClockAt line t
IsStepLine line (HostPacket input) = IsCall line (codes "packet") (input ∷ [])
IsStepLine line (HostAck viewer) = IsCall line (codes "ack") (viewer ∷ [])
IsStepLine line (HostTake packet) = IsGivenHost line packet
IsStepLine line (HostDropBelow floor) = IsCall line (codes "floor") (floor ∷ [])
IsStepLine line HostFloorPacket = line ≡ codes "notice"
IsStepLine line (ViewerOffer viewer point) = IsOffer line viewer point
IsStepLine line (ViewerResend viewer place) = IsCall line (codes "resend") (viewer ∷ place ∷ [])
IsStepLine line (ViewerAsk viewer) = IsCall line (codes "ask") (viewer ∷ [])
IsStepLine line (ViewerTake viewer packet) = IsCall line (codes "give") (packet ∷ viewer ∷ [])
IsStepLine line (ViewerSave viewer) = IsCall line (codes "save") (viewer ∷ [])
IsStepLine line (ViewerRewind viewer snapshot boot) =
    IsCall line (codes "rewind") (viewer ∷ snapshot ∷ boot ∷ [])
IsStepLine line (PiecePacket snapshot piece) = IsCall line (codes "piece") (snapshot ∷ piece ∷ [])
IsStepLine line (ViewerGather viewer packet) = IsCall line (codes "gather") (packet ∷ viewer ∷ [])
IsStepLine line (ViewerJoin viewer boot) = IsCall line (codes "join") (viewer ∷ boot ∷ [])
IsStepLine line (ViewerForget viewer) = IsCall line (codes "forget") (viewer ∷ [])

-- each line is a step
abbrev pub EachIsStep : List (List ℕ) → List Step → Type 0
EachIsStep [] [] = ⊤
EachIsStep (line ∷ lines) (step ∷ steps) = IsStepLine line step × EachIsStep lines steps
EachIsStep [] (step ∷ steps) = ⊥
EachIsStep (line ∷ lines) [] = ⊥

-- the bytes are a line for each step, a line `scene`, and the scene
pub record IsSchedule (bytes : List ℕ) (s : Schedule) : Type 0 where
  pub steps : List (List ℕ)
  pub rest : List (List ℕ)
  pub lines : lines bytes ≡ steps ++ codes "scene" ∷ rest
  pub each : EachIsStep steps s.steps
  pub scene : s.scene ≡ behind_lines (length steps + 1) bytes
