-- The lines of a log, followed by a scene, are a job of the log's inputs.
use Rattle.std.proofs.Common.{◌≡◌, ◌⊎◌, inl, inr, ℕ, zero, suc, ◌+◌, ◌≤ℤ◌, ℤ, pos, negsuc, ◌+ℤ◌, true, List, [], ◌∷◌, ◌++◌, length, map, take, drop, codes}
use Rattle.std.proofs.Common.{refl, sym, ap, subst, ◌∙◌, arith, append_assoc, length-append, zero-add}
use Rattle.std.specs.Prelude.{⊤, Ok}
use Rattle.std.specs.List.{join_with_byte, slice_split}
use Rattle.std.specs.Str.Lines.{lines}
use Rattle.std.proofs.lemmas.Bool.{and_parts}
use Rattle.std.proofs.lemmas.Int.{ints}
use Rattle.x3d_numerals.specs.NumberText.{IsLimited, number_text}
use Rattle.x3d_numerals.proofs.Written.{numeral_of}
use Rattle.x3d_values.specs.Pointing.{PointerView, is_ray}
use Rattle.x3d_values.specs.Ranges.{is_viewer, max_time}
use Rattle.x3d_values.specs.Stamp.{StampedView}
use Rattle.share_rules.specs.Lines.{behind_line, is_lf}
use Rattle.share_wire.specs.Messages.{OfferView}
use Rattle.share_entries.specs.Entry.{EntryView}
use Rattle.share_entries.specs.declared.entry.Source.{Source}
use Rattle.share_entries.specs.declared.entry.Source.TheVariants.{Clock, Offer}
use Rattle.share_law.specs.Host.{HostState, last_from, last_time}
use Rattle.laws_hosts.specs.Log.{host_of, inputs_of}
use Rattle.share_logged.specs.Logged.{entry_at, logged, logged_from}
use Rattle.share_logged.specs.Making.{AreMade, IsLogOf, MakesOf}
use Rattle.share_logged.proofs.Making.{list-push, logged-inputs, makes-next}
use Rattle.share_logged.proofs.Ranges.{makes_none, numbers_none, time_ok}
use Rattle.app_jobs.specs.Job.{AreSteps, IsClock, IsJobStep, IsPointed, behind_lines, job_lines}
use Rattle.app_jobs.specs.Points.{IsPoint}
use Rattle.app_jobs.proofs.JobOnly.{only}
use Rattle.app_jobs.proofs.LineLemmas.{cut}
use Rattle.app_logs.specs.Replaying.{are_pointing, is_pointing, replay_text}
use Rattle.app_logs.specs.Steps.{steps_text}
use Rattle.app_logs.proofs.Unbroken.{Unbroken, behind_is, first_is, numeral_is, unbroken_both}
use Rattle.app_logs.proofs.EntryLines.{bare_of, bare, line_is, point_is}

-- ---- one step

abbrev input_of : (number : ℕ) → ℤ → Source → StampedView
input_of number t s = (entry_at number (record { time = t; source = s })).input

time_limited : (t : ℤ) → pos 0 ≤ℤ t → t ≤ℤ pos max_time → IsLimited t
time_limited (pos n) from most = grind (arith, ints)
time_limited (negsuc n) from most = absurd (grind (arith, ints))

says_is : (given : ℕ) (before t : ℤ) (s : Source) → IsLimited t → is_pointing s ≡ true
    → ((o : OfferView) → s ≡ Offer o → t ≡ before +ℤ pos 1)
    → IsClock (bare_of t s) (input_of (given + 1) t s) ⊎ IsPointed before (bare_of t s) (input_of (given + 1) t s)
says_is given before t Clock limited points after =
    inl (record { text = number_text t; is = refl; time = numeral_of t limited; cause = refl })
says_is given before t (Offer o) limited points after =
    let both = and_parts (is_viewer o.pointer.who) (is_ray o.pointer.ray) points in
    inr (record { pointing = o.pointer; words = point_is o.pointer both.0 both.1; time = after o refl; cause = refl })

offer_after : (h new : HostState) (t : ℤ) (s : Source) → MakesOf h t s new → (o : OfferView) → s ≡ Offer o → t ≡ last_time h.list +ℤ pos 1
offer_after h new t Clock m o is = absurd (cc)
offer_after h new t (Offer o2) m o is = m.0

step_is : (h new : HostState) (given : ℕ) (t : ℤ) (s : Source) → given ≡ length h.list → pos 0 ≤ℤ last_time h.list → MakesOf h t s new → is_pointing s ≡ true
    → IsJobStep given (last_time h.list) (bare_of t s) (input_of (given + 1) t s) × (pos 0 ≤ℤ t)
step_is h new given t s many from m points =
    let n = numbers_none h.list t (makes_none h new t s m) in
    let ok = time_ok (last_time h.list) t from n.later n.most in (
      record {
        says = says_is given (last_time h.list) t s (time_limited t ok.1 n.most) points (offer_after h new t s m);
        numbered = record { number = refl; few = omega (arith, many, n.few); later = n.later; in_range = ok.0 };
      },
      ok.1,
    )

-- ---- the steps

last-push : (t : ℤ) (l : List StampedView) (x : StampedView) → last_from t (l ++ x ∷ []) ≡ x.time
last-push t [] x = refl
last-push t (y ∷ l) x = last-push y.time l x

steps : (v : ℕ) (xs es : List EntryView) (new : HostState) → AreMade (host_of v (logged xs) 1) es new → are_pointing es ≡ true
    → pos 0 ≤ℤ last_time (inputs_of (logged xs))
    → AreSteps (length xs) (last_time (inputs_of (logged xs))) (map bare es) (inputs_of (logged_from (length xs + 1) es))
steps v xs [] new m points from = tt
steps v xs (e ∷ es) new m points from =
    let h : HostState = host_of v (logged xs) 1 in
    let both = and_parts (is_pointing e.source) (are_pointing es) points in
    let here = step_is h m.0 (length xs) e.time e.source (sym (logged-inputs xs)) from m.1 both.0 in
    let next : m.0 ≡ host_of v (logged (xs ++ e ∷ [])) 1 = makes-next v 1 xs e.time e.source m.0 m.1 in
    let many : length (xs ++ e ∷ []) ≡ length xs + 1 = length-append xs (e ∷ []) in
    let last : last_time (inputs_of (logged (xs ++ e ∷ []))) ≡ e.time =
    ap last_time (list-push xs e) ∙ last-push (pos 0) (inputs_of (logged xs)) _ in
    let rest = steps v (xs ++ e ∷ []) es new (subst (λ (k : HostState). AreMade k es new) next m.2) both.1 (subst (λ (t : ℤ). pos 0 ≤ℤ t) (sym last) here.1) in (
      here.0,
      subst (λ (t : ℤ). AreSteps (length xs + 1) t (map bare es) (inputs_of (logged_from (length xs + 1 + 1) es))) last
          (subst (λ (n : ℕ). AreSteps n (last_time (inputs_of (logged (xs ++ e ∷ [])))) (map bare es) (inputs_of (logged_from (n + 1) es))) many rest),
    )

-- ---- the lines of a text

abbrev AreUnbroken : List (List ℕ) → Type 0
AreUnbroken [] = ⊤
AreUnbroken (l ∷ ls) = Unbroken l × AreUnbroken ls

space : (a b : List ℕ) → Unbroken a → Unbroken b → Unbroken (a ++ (32 ∷ b))
space a b h k = unbroken_both a (32 ∷ b) h (refl, k)

point_whole : (line : List ℕ) (p : PointerView) → IsPoint line p → Unbroken line
point_whole line p h =
    let who = numeral_is h.who _ h.viewer.numeral in
    let down = numeral_is h.down _ h.button.numeral in
    let words =
    space h.who _ who (space h.down _ down (space h.ox _ (numeral_is h.ox _ h.origin.x_is) (space h.oy _ (numeral_is h.oy _ h.origin.y_is)
    (space h.oz _ (numeral_is h.oz _ h.origin.z_is) (space h.dx _ (numeral_is h.dx _ h.direction.x_is)
    (space h.dy h.dz (numeral_is h.dy _ h.direction.y_is) (numeral_is h.dz _ h.direction.z_is))))))) in
    subst Unbroken (sym h.words) (unbroken_both (codes "point ") _ (refl, (refl, (refl, (refl, (refl, (refl, tt)))))) words)

step_whole : (given : ℕ) (before : ℤ) (line : List ℕ) (input : StampedView) → IsJobStep given before line input → Unbroken line
step_whole given before line input h = elim h.says [
  | inl c ↦ subst Unbroken (sym c.is) (unbroken_both (codes "clock ") c.text (refl, (refl, (refl, (refl, (refl, (refl, tt)))))) (numeral_is c.text _ c.time))
  | inr p ↦ point_whole line p.pointing p.words
]

steps_whole : (given : ℕ) (before : ℤ) (ls : List (List ℕ)) (inputs : List StampedView) → AreSteps given before ls inputs → AreUnbroken ls
steps_whole given before [] inputs h = tt
steps_whole given before (l ∷ ls) [] h = absurd h
steps_whole given before (l ∷ ls) (x ∷ inputs) h = (step_whole given before l x h.0, steps_whole (given + 1) x.time ls inputs h.1)

abbrev joined : List (List ℕ) → List ℕ
joined [] = []
joined (l ∷ ls) = l ++ (10 ∷ joined ls)

text_joined : (es : List EntryView) → steps_text es ≡ joined (map bare es)
text_joined [] = refl
text_joined (e ∷ es) =
    ap (λ (l : List ℕ). l ++ steps_text es) (line_is e.time e.source) ∙ append_assoc (bare e) (10 ∷ []) (steps_text es)
    ∙ ap (λ (l : List ℕ). bare e ++ (10 ∷ l)) (text_joined es)

-- a line and what follows it
front : (l more : List ℕ) → Unbroken l → (lines (l ++ (10 ∷ more)) ≡ l ∷ lines more)
    × ((k : ℕ) → join_with_byte 10 (drop (suc k) (slice_split is_lf (l ++ (10 ∷ more)))) ≡ join_with_byte 10 (drop k (slice_split is_lf more)))
front l more whole =
    let c = cut (l ++ (10 ∷ more)) (omega (arith, length-append l (10 ∷ more))) in (
      c.lines ∙ ap (λ (a : List ℕ). a ∷ lines (behind_line (l ++ (10 ∷ more)))) (first_is l more whole) ∙ ap (λ (b : List ℕ). l ∷ lines b) (behind_is l more whole),
      λ k. c.behind k ∙ ap (λ (b : List ℕ). join_with_byte 10 (drop k (slice_split is_lf b))) (behind_is l more whole),
    )

lines_joined : (ls : List (List ℕ)) (rest : List ℕ) → AreUnbroken ls → lines (joined ls ++ rest) ≡ ls ++ lines rest
lines_joined [] rest h = refl
lines_joined (l ∷ ls) rest h =
    ap lines (append_assoc l (10 ∷ joined ls) rest) ∙ (front l (joined ls ++ rest) h.0).0 ∙ ap (λ (a : List (List ℕ)). l ∷ a) (lines_joined ls rest h.1)

behind_joined : (ls : List (List ℕ)) (rest : List ℕ) (k : ℕ) → AreUnbroken ls
    → join_with_byte 10 (drop (length ls + k) (slice_split is_lf (joined ls ++ rest))) ≡ join_with_byte 10 (drop k (slice_split is_lf rest))
behind_joined [] rest k h = ap (λ (n : ℕ). join_with_byte 10 (drop n (slice_split is_lf rest))) (zero-add k)
behind_joined (l ∷ ls) rest k h =
    let place : length (l ∷ ls) + k ≡ suc (length ls + k) = omega arith in
    ap (λ (n : ℕ). join_with_byte 10 (drop n (slice_split is_lf (joined (l ∷ ls) ++ rest)))) place
    ∙ ap (λ (t : List ℕ). join_with_byte 10 (drop (suc (length ls + k)) (slice_split is_lf t))) (append_assoc l (10 ∷ joined ls) rest)
    ∙ (front l (joined ls ++ rest) h.0).1 (length ls + k) ∙ behind_joined ls rest k h.1

-- ---- the job

scene_line : Unbroken (codes "scene")
scene_line = (refl, (refl, (refl, (refl, (refl, tt)))))

scene_behind : (scene : List ℕ) → join_with_byte 10 (drop 1 (slice_split is_lf (codes "scene" ++ (10 ∷ scene)))) ≡ scene
scene_behind scene =
    let c = cut (codes "scene" ++ (10 ∷ scene)) (omega arith) in
    c.whole ∙ behind_is (codes "scene") scene scene_line

pub job_again : (viewers : ℕ) (entries : List EntryView) (scene : List ℕ) → IsLogOf viewers entries → are_pointing entries ≡ true
    → job_lines (replay_text entries scene) ≡ Ok (record { inputs = inputs_of (logged entries); scene = scene })
job_again viewers entries scene log points =
    let ls = map bare entries in
    let rest = codes "scene" ++ (10 ∷ scene) in
    let each = steps viewers [] entries log.0 log.1 points (grind (arith, ints)) in
    let whole = steps_whole 0 (pos 0) (map bare entries) (inputs_of (logged entries)) each in
    let text : replay_text entries scene ≡ joined (map bare entries) ++ (codes "scene" ++ (10 ∷ scene)) =
    ap (λ (l : List ℕ). l ++ (codes "scene" ++ (10 ∷ scene))) (text_joined entries) in
    only (replay_text entries scene) (record { inputs = inputs_of (logged entries); scene = scene })
    (record {
      steps = map bare entries;
      rest = lines scene;
      lines = ap lines text ∙ lines_joined (map bare entries) (codes "scene" ++ (10 ∷ scene)) whole
          ∙ ap (λ (l : List (List ℕ)). map bare entries ++ l) (front (codes "scene") scene scene_line).0;
      each = each;
      scene = sym (ap (λ (t : List ℕ). behind_lines (length (map bare entries) + 1) t) text ∙ behind_joined (map bare entries) (codes "scene" ++ (10 ∷ scene)) 1 whole ∙ scene_behind scene);
    })

-- ---- the first entries of a log

pub made_front : (h new : HostState) (n : ℕ) (es : List EntryView) → AreMade h es new → (mid : HostState) × AreMade h (take n es) mid
made_front h new zero es m = (h, refl)
made_front h new (suc n) [] m = (h, refl)
made_front h new (suc n) (e ∷ es) m =
    let rest = made_front m.0 new n es m.2 in
    (rest.0, (m.0, m.1, rest.1))
