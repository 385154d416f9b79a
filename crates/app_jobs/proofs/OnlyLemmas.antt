-- A line with the words of a step is that step and no other, and bytes that are a schedule are
-- answered as it.
use Rattle.std.proofs.Common.{◌≡◌, ℕ, suc, ◌+◌, ◌<◌, ◌==◌, ℤ, pos, List, [], ◌∷◌, ◌++◌, length, Bool, true, false, codes, Option, Some, None, Ok}
use Rattle.std.proofs.Common.{refl, sym, ap, ◌∙◌, inl, inr, arith}
use Rattle.std.specs.Prelude.{if◌then◌else◌}
use Rattle.std.specs.Option.{option_map, option_or}
use Rattle.std.specs.Result.{result_ok}
use Rattle.std.specs.Str.{bytes_eq}
use Rattle.std.specs.Str.Lines.{lines}
use Rattle.std.specs.Cmp.Lexicographic.{same_text}
use Rattle.std.proofs.lemmas.Bool.{cases_Bool}
use Rattle.x3d_numerals.specs.Reading.{numeral}
use Rattle.x3d_numerals.proofs.Numerals.{numeral_complete}
use Rattle.x3d_values.specs.declared.vector.Vec3.{Vec3}
use Rattle.x3d_values.specs.declared.pointing.Point.{Point}
use Rattle.share_law.specs.declared.step.Step.{Step}
use Rattle.share_law.specs.declared.step.Step.TheVariants.{HostClock, HostPacket, HostAck, HostTake}
use Rattle.share_law.specs.declared.step.Step.TheVariants.{ViewerOffer, ViewerResend, ViewerAsk}
use Rattle.share_law.specs.declared.step.Step.TheVariants.{ViewerTake, ViewerSave, ViewerRewind}
use Rattle.share_law.specs.declared.step.Step.TheVariants.{HostDropBelow, HostFloorPacket}
use Rattle.share_law.specs.declared.step.Step.TheVariants.{PiecePacket, ViewerGather, ViewerJoin, ViewerForget}
use Rattle.app_jobs.specs.declared.schedule.Schedule.{Schedule}
use Rattle.app_jobs.specs.Job.{is_scene, behind_lines}
use Rattle.app_jobs.specs.Points.{word, behind, number_below, vector_of}
use Rattle.app_jobs.specs.Schedule.{number, clock_step, given, give_step, paired, two_numbers, rewound, rewind_step, read_point, offered, offer_step}
use Rattle.app_jobs.specs.Schedule.{host_step, viewer_step, piece_step, step_of, steps_of, with_step, with_bytes, schedule_lines, spaced, IsCall, IsClockAt, IsGivenHost, IsOffer, IsStepLine, EachIsStep, IsSchedule}
use Rattle.app_jobs.proofs.ScheduleLemmas.{of_line}
use Rattle.app_jobs.proofs.SpaceLemmas.{Spaceless, word_is, behind_is, numeral_is}
use Rattle.app_jobs.proofs.OnlyNumbers.{number_is, vector_is, one_is, first_of, last_of, two_of}

-- ---- a line of each name

named_one : (line name : List ℕ) (n : ℕ) (c : IsCall line name (n ∷ [])) → line ≡ name ++ (32 ∷ (last_of c.texts n c.each).text)
named_one line name n c = c.words ∙ ap (λ t. spaced (name ∷ t)) (last_of c.texts n c.each).is

-- what isn't the host's
abbrev others : List ℕ → List ℕ → Option Step
others name text = option_or (viewer_step name text) (piece_step name text)

packet_at : (text : List ℕ) (n : ℕ) → number text ≡ Some n → step_of (codes "packet" ++ (32 ∷ text)) ≡ Some (HostPacket n)
unfolding step_of host_step word behind
packet_at text n e = ap (λ r. option_or (option_map (λ i. HostPacket i) r) (others (codes "packet") text)) e

ack_at : (text : List ℕ) (n : ℕ) → number text ≡ Some n → step_of (codes "ack" ++ (32 ∷ text)) ≡ Some (HostAck n)
unfolding step_of host_step word behind
ack_at text n e = ap (λ r. option_or (option_map (λ i. HostAck i) r) (others (codes "ack") text)) e

floor_at : (text : List ℕ) (n : ℕ) → number text ≡ Some n → step_of (codes "floor" ++ (32 ∷ text)) ≡ Some (HostDropBelow n)
unfolding step_of host_step word behind
floor_at text n e = ap (λ r. option_or (option_map (λ i. HostDropBelow i) r) (others (codes "floor") text)) e

ask_at : (text : List ℕ) (n : ℕ) → number text ≡ Some n → step_of (codes "ask" ++ (32 ∷ text)) ≡ Some (ViewerAsk n)
unfolding step_of host_step viewer_step word behind
ask_at text n e = ap (λ r. option_or (option_map (λ i. ViewerAsk i) r) (piece_step (codes "ask") text)) e

save_at : (text : List ℕ) (n : ℕ) → number text ≡ Some n → step_of (codes "save" ++ (32 ∷ text)) ≡ Some (ViewerSave n)
unfolding step_of host_step viewer_step word behind
save_at text n e = ap (λ r. option_or (option_map (λ i. ViewerSave i) r) (piece_step (codes "save") text)) e

forget_at : (text : List ℕ) (n : ℕ) → number text ≡ Some n → step_of (codes "forget" ++ (32 ∷ text)) ≡ Some (ViewerForget n)
unfolding step_of host_step viewer_step piece_step word behind
forget_at text n e = ap (λ r. option_map (λ i. ViewerForget i) r) e

clock_at : (text : List ℕ) (t : ℤ) → numeral text ≡ Ok t → step_of (codes "clock" ++ (32 ∷ text)) ≡ Some (HostClock t)
unfolding step_of host_step clock_step word behind
clock_at text t e = ap (λ r. option_or (option_map (λ i. HostClock i) (result_ok r)) (others (codes "clock") text)) e

two_at : (text : List ℕ) (a b : ℕ) → number (word text) ≡ Some a → number (behind text) ≡ Some b → two_numbers text ≡ Some (a, b)
unfolding two_numbers
two_at text a b first second = ap (λ r. paired r (number (behind text))) first ∙ ap (λ r. paired (Some a) r) second

resend_at : (text : List ℕ) (v i : ℕ) → two_numbers text ≡ Some (v, i) → step_of (codes "resend" ++ (32 ∷ text)) ≡ Some (ViewerResend v i)
unfolding step_of host_step viewer_step word behind
resend_at text v i e = ap (λ (r : Option (ℕ × ℕ)). option_or (option_map (λ p. ViewerResend p.0 p.1) r) (piece_step (codes "resend") text)) e

piece_at : (text : List ℕ) (s i : ℕ) → two_numbers text ≡ Some (s, i) → step_of (codes "piece" ++ (32 ∷ text)) ≡ Some (PiecePacket s i)
unfolding step_of host_step viewer_step piece_step word behind
piece_at text s i e = ap (λ (r : Option (ℕ × ℕ)). option_map (λ p. PiecePacket p.0 p.1) r) e

gather_at : (text : List ℕ) (p v : ℕ) → two_numbers text ≡ Some (p, v) → step_of (codes "gather" ++ (32 ∷ text)) ≡ Some (ViewerGather v p)
unfolding step_of host_step viewer_step piece_step word behind
gather_at text p v e = ap (λ (r : Option (ℕ × ℕ)). option_map (λ q. ViewerGather q.1 q.0) r) e

join_at : (text : List ℕ) (v b : ℕ) → two_numbers text ≡ Some (v, b) → step_of (codes "join" ++ (32 ∷ text)) ≡ Some (ViewerJoin v b)
unfolding step_of host_step viewer_step piece_step word behind
join_at text v b e = ap (λ (r : Option (ℕ × ℕ)). option_map (λ p. ViewerJoin p.0 p.1) r) e

rewind_at : (text : List ℕ) (v n b : ℕ) → number (word text) ≡ Some v → number (word (behind text)) ≡ Some n → number (behind (behind text)) ≡ Some b
    → step_of (codes "rewind" ++ (32 ∷ text)) ≡ Some (ViewerRewind v n b)
unfolding step_of host_step viewer_step rewind_step word behind
rewind_at text v n b first second third =
    ap (λ r. option_or (rewound r (number (word (behind text))) (number (behind (behind text)))) (piece_step (codes "rewind") text)) first
    ∙ (ap (λ r. option_or (rewound (Some v) r (number (behind (behind text)))) (piece_step (codes "rewind") text)) second
    ∙ ap (λ r. option_or (rewound (Some v) (Some n) r) (piece_step (codes "rewind") text)) third)

give_at : (text : List ℕ) (p : ℕ) (s : Step) → number (word text) ≡ Some p → given (Some p) (behind text) ≡ Some s
    → step_of (codes "give" ++ (32 ∷ text)) ≡ Some s
unfolding step_of host_step give_step word behind
give_at text p s first e =
    ap (λ r. option_or (given r (behind text)) (others (codes "give") text)) first ∙ ap (λ r. option_or r (others (codes "give") text)) e

offer_at : (text : List ℕ) (v : ℕ) (p : Point) → number (word text) ≡ Some v → read_point (behind text) ≡ Some p
    → step_of (codes "offer" ++ (32 ∷ text)) ≡ Some (ViewerOffer v p)
unfolding step_of host_step viewer_step offer_step word behind
offer_at text v p first second =
    ap (λ r. option_or (offered r (read_point (behind text))) (piece_step (codes "offer") text)) first
    ∙ ap (λ r. option_or (offered (Some v) r) (piece_step (codes "offer") text)) second

-- ---- a line that is a step

by_one : (line name : List ℕ) (n : ℕ) (s : Step) → ((text : List ℕ) → number text ≡ Some n → step_of (name ++ (32 ∷ text)) ≡ Some s)
    → IsCall line name (n ∷ []) → step_of line ≡ Some s
by_one line name n s at c = ap step_of (named_one line name n c) ∙ at (last_of c.texts n c.each).text (last_of c.texts n c.each).number_is

by_two : (line name : List ℕ) (a b : ℕ) (s : Step) → ((text : List ℕ) → two_numbers text ≡ Some (a, b) → step_of (name ++ (32 ∷ text)) ≡ Some s)
    → IsCall line name (a ∷ b ∷ []) → step_of line ≡ Some s
by_two line name a b s at c =
    let t = two_of c.texts a b c.each in
    ap step_of (c.words ∙ t.name name) ∙ at t.text (two_at t.text a b t.first_is t.second_is)

rewind_only : (line : List ℕ) (v n b : ℕ) → IsCall line (codes "rewind") (v ∷ n ∷ b ∷ []) → step_of line ≡ Some (ViewerRewind v n b)
rewind_only line v n b c =
    let f = first_of c.texts v (n ∷ b ∷ []) c.each in
    let t = two_of f.more n b f.others in
    let text : List ℕ = f.text ++ (32 ∷ t.text) in
    let first : number (word text) ≡ Some v = ap number (word_is f.text t.text f.apart) ∙ f.number_is in
    let rest : behind text ≡ t.text = behind_is f.text t.text f.apart in
    let second : number (word (behind text)) ≡ Some n = ap (λ r. number (word r)) rest ∙ t.first_is in
    let third : number (behind (behind text)) ≡ Some b = ap (λ r. number (behind r)) rest ∙ t.second_is in
    let words : spaced (codes "rewind" ∷ c.texts) ≡ codes "rewind" ++ (32 ∷ text) =
    ap (λ l. spaced (codes "rewind" ∷ l)) f.is ∙ ap (λ l. codes "rewind" ++ (32 ∷ l)) (t.name f.text) in
    ap step_of (c.words ∙ words) ∙ rewind_at text v n b first second third

-- a number is not the word `host`
no_host : (text : List ℕ) (v : ℕ) → number text ≡ Some v → bytes_eq text (codes "host") ≡ false
unfolding number number_below
no_host text v e = elim (cases_Bool (bytes_eq text (codes "host"))) [
  | inl same ↦
      let word : text ≡ codes "host" = same_text text (codes "host") (sym same) in
      let none : None ≡ Some v = ap number (sym word) ∙ e in
      absurd (cc)
  | inr other ↦ other
]

take_at : (text : List ℕ) (p v : ℕ) → number (word text) ≡ Some p → number (behind text) ≡ Some v
    → step_of (codes "give" ++ (32 ∷ text)) ≡ Some (ViewerTake v p)
take_at text p v first second =
    let who : given (Some p) (behind text) ≡ Some (ViewerTake v p) = rw (no_host (behind text) v second, second) refl in
    give_at text p (ViewerTake v p) first who

take_only : (line : List ℕ) (p v : ℕ) → IsCall line (codes "give") (p ∷ v ∷ []) → step_of line ≡ Some (ViewerTake v p)
take_only line p v c =
    let t = two_of c.texts p v c.each in
    ap step_of (c.words ∙ t.name (codes "give")) ∙ take_at t.text p v t.first_is t.second_is

host_only : (line : List ℕ) (p : ℕ) → IsGivenHost line p → step_of line ≡ Some (HostTake p)
host_only line p h =
    let text : List ℕ = h.text ++ (32 ∷ codes "host") in
    let apart : Spaceless h.text = numeral_is h.text (pos h.number.0.millionths) h.number.0.numeral in
    let read : number h.text ≡ Some p = one_is h.text p h.number in
    let first : number (word text) ≡ Some p = ap number (word_is h.text (codes "host") apart) ∙ read in
    let who : given (Some p) (behind text) ≡ Some (HostTake p) = ap (λ r. given (Some p) r) (behind_is h.text (codes "host") apart) in
    ap step_of h.words ∙ give_at text p (HostTake p) first who

clock_only : (line : List ℕ) (t : ℤ) → IsClockAt line t → step_of line ≡ Some (HostClock t)
clock_only line t h = ap step_of h.words ∙ clock_at h.text t (numeral_complete h.text t h.time)

point_at : (text x y z d dy dz : List ℕ) (n : ℕ) (o v : Vec3) → behind text ≡ x → behind x ≡ y → behind y ≡ z → behind z ≡ d → behind d ≡ dy → behind dy ≡ dz
    → number_below 2 (word text) ≡ Some n → vector_of (word x) (word y) (word z) ≡ Some o → vector_of (word d) (word dy) dz ≡ Some v
    → read_point text ≡ Some (record { down = n == 1; origin = o; dir = v })
unfolding read_point
point_at text x y z d dy dz n o v at_x at_y at_z at_d at_dy at_dz n_is o_is v_is = rw (at_x, at_y, at_z, at_d, at_dy, at_dz, n_is, o_is, v_is) refl

pub bit_low : (b : Bool) → (if b then 1 else 0) < 2
bit_low true = omega arith
bit_low false = omega arith

pub bit_is : (b : Bool) → ((if b then 1 else 0) == 1) ≡ b
bit_is true = refl
bit_is false = refl

offer_only : (line : List ℕ) (v : ℕ) (p : Point) → IsOffer line v p → step_of line ≡ Some (ViewerOffer v p)
offer_only line v p h =
    let dy : List ℕ = h.dy ++ (32 ∷ h.dz) in
    let d : List ℕ = h.dx ++ (32 ∷ dy) in
    let z : List ℕ = h.oz ++ (32 ∷ d) in
    let y : List ℕ = h.oy ++ (32 ∷ z) in
    let x : List ℕ = h.ox ++ (32 ∷ y) in
    let rest : List ℕ = h.down ++ (32 ∷ x) in
    let text : List ℕ = h.who ++ (32 ∷ rest) in
    let who : Spaceless h.who = numeral_is h.who (pos h.viewer_is.0.millionths) h.viewer_is.0.numeral in
    let down : Spaceless h.down = numeral_is h.down (pos h.button.millionths) h.button.numeral in
    let ox : Spaceless h.ox = numeral_is h.ox p.origin.x h.origin.x_is in
    let oy : Spaceless h.oy = numeral_is h.oy p.origin.y h.origin.y_is in
    let oz : Spaceless h.oz = numeral_is h.oz p.origin.z h.origin.z_is in
    let dx : Spaceless h.dx = numeral_is h.dx p.dir.x h.direction.x_is in
    let dy_apart : Spaceless h.dy = numeral_is h.dy p.dir.y h.direction.y_is in
    let n : ℕ = if p.down then 1 else 0 in
    let n_is : number_below 2 (word rest) ≡ Some n = ap (λ w. number_below 2 w) (word_is h.down x down) ∙ number_is 2 h.down n h.button (bit_low p.down) in
    let o_is : vector_of (word x) (word y) (word z) ≡ Some p.origin =
    ap (λ w. vector_of w (word y) (word z)) (word_is h.ox y ox)
    ∙ (ap (λ w. vector_of h.ox w (word z)) (word_is h.oy z oy) ∙ (ap (λ w. vector_of h.ox h.oy w) (word_is h.oz d oz) ∙ vector_is h.ox h.oy h.oz p.origin h.origin)) in
    let v_is : vector_of (word d) (word dy) h.dz ≡ Some p.dir =
    ap (λ w. vector_of w (word dy) h.dz) (word_is h.dx dy dx)
    ∙ (ap (λ w. vector_of h.dx w h.dz) (word_is h.dy h.dz dy_apart) ∙ vector_is h.dx h.dy h.dz p.dir h.direction) in
    let made : read_point rest ≡ Some (record { down = n == 1; origin = p.origin; dir = p.dir }) =
    point_at rest x y z d dy h.dz n p.origin p.dir (behind_is h.down x down) (behind_is h.ox y ox) (behind_is h.oy z oy) (behind_is h.oz d oz) (behind_is h.dx dy dx)
    (behind_is h.dy h.dz dy_apart) n_is o_is v_is in
    let same : Some (record { down = n == 1; origin = p.origin; dir = p.dir }) ≡ Some p =
    ap (λ b. Some (record { down = b; origin = p.origin; dir = p.dir })) (bit_is p.down) in
    let first : number (word text) ≡ Some v =
    ap number (word_is h.who rest who) ∙ one_is h.who v h.viewer_is in
    let second : read_point (behind text) ≡ Some p = ap read_point (behind_is h.who rest who) ∙ (made ∙ same) in
    ap step_of h.words ∙ offer_at text v p first second

notice_at : step_of (codes "notice") ≡ Some HostFloorPacket
unfolding step_of
notice_at = refl

step_only : (line : List ℕ) (s : Step) → IsStepLine line s → step_of line ≡ Some s
step_only line (HostClock t) h = clock_only line t h
step_only line (HostPacket n) h = by_one line (codes "packet") n (HostPacket n) (λ text e. packet_at text n e) h
step_only line (HostAck v) h = by_one line (codes "ack") v (HostAck v) (λ text e. ack_at text v e) h
step_only line (HostTake p) h = host_only line p h
step_only line (HostDropBelow f) h = by_one line (codes "floor") f (HostDropBelow f) (λ text e. floor_at text f e) h
step_only line HostFloorPacket h = ap step_of h ∙ notice_at
step_only line (ViewerOffer v p) h = offer_only line v p h
step_only line (ViewerResend v i) h = by_two line (codes "resend") v i (ViewerResend v i) (λ text e. resend_at text v i e) h
step_only line (ViewerAsk v) h = by_one line (codes "ask") v (ViewerAsk v) (λ text e. ask_at text v e) h
step_only line (ViewerTake v p) h = take_only line p v h
step_only line (ViewerSave v) h = by_one line (codes "save") v (ViewerSave v) (λ text e. save_at text v e) h
step_only line (ViewerRewind v n b) h = rewind_only line v n b h
step_only line (PiecePacket s i) h = by_two line (codes "piece") s i (PiecePacket s i) (λ text e. piece_at text s i e) h
step_only line (ViewerGather v p) h = by_two line (codes "gather") p v (ViewerGather v p) (λ text e. gather_at text p v e) h
step_only line (ViewerJoin v b) h = by_two line (codes "join") v b (ViewerJoin v b) (λ text e. join_at text v b e) h
step_only line (ViewerForget v) h = by_one line (codes "forget") v (ViewerForget v) (λ text e. forget_at text v e) h

pub one_step : (line : List ℕ) (a b : Step) → IsStepLine line a → IsStepLine line b → a ≡ b
one_step line a b h k = let both : Some a ≡ Some b = sym (step_only line a h) ∙ step_only line b k in cc

-- ---- the whole

scene_is_none : step_of (codes "scene") ≡ None
unfolding step_of host_step viewer_step piece_step word behind
scene_is_none = refl

no_scene : (line : List ℕ) (s : Step) → step_of line ≡ Some s → is_scene line ≡ false
no_scene line s e = elim (cases_Bool (is_scene line)) [
  | inl scene ↦
      let word : line ≡ codes "scene" = same_text line (codes "scene") (sym scene) in
      let none : None ≡ Some s = sym scene_is_none ∙ (ap step_of (sym word) ∙ e) in
      absurd (cc)
  | inr other ↦ other
]

record AreSteps (n : ℕ) (all : List (List ℕ)) (texts : List (List ℕ)) (steps : List Step) : Type 0 where
  answer : steps_of n all ≡ Ok steps
  count : length texts ≡ length steps

steps_only : (n : ℕ) (texts rest : List (List ℕ)) (steps : List Step) → EachIsStep texts steps → AreSteps n (texts ++ codes "scene" ∷ rest) texts steps
steps_only n [] rest [] h = record { answer = refl; count = refl }
steps_only n [] rest (s ∷ steps) h = absurd h
steps_only n (line ∷ texts) rest [] h = absurd h
steps_only n (line ∷ texts) rest (s ∷ steps) h =
    let first : step_of line ≡ Some s = step_only line s h.0 in
    let more = steps_only (suc n) texts rest steps h.1 in
    let all : List (List ℕ) = texts ++ codes "scene" ∷ rest in
    record {
      answer =
          of_line n line all (no_scene line s first)
          ∙ (ap (λ o. with_step n o (steps_of (suc n) all)) first ∙ ap (λ r. with_step n (Some s) r) more.answer);
      count = ap suc more.count;
    }

pub only : (bytes : List ℕ) (s : Schedule) → IsSchedule bytes s → schedule_lines bytes ≡ Ok s
unfolding schedule_lines
only bytes s h =
    let all = steps_only 0 h.steps h.rest s.steps h.each in
    let answer : steps_of 0 (lines bytes) ≡ Ok s.steps = ap (λ l. steps_of 0 l) h.lines ∙ all.answer in
    let scene : behind_lines (length s.steps + 1) bytes ≡ s.scene = ap (λ n. behind_lines (n + 1) bytes) (sym all.count) ∙ sym h.scene in
    ap (with_bytes bytes) answer ∙ ap (λ b. Ok (record { steps = s.steps; scene = b })) scene
