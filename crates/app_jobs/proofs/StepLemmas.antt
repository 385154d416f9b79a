-- A line that is a step, in its words.
use Rattle.std.proofs.Common.{◌≡◌, ℕ, ◌<◌, ◌==◌, List, [], ◌∷◌, ◌++◌, length, Bool, true, codes, Option, Some, None, Ok}
use Rattle.std.proofs.Common.{refl, sym, ap, subst, ◌∙◌, inl, inr, arith}
use Rattle.std.specs.Prelude.{if◌then◌else◌}
use Rattle.std.specs.Option.{option_map, option_or}
use Rattle.std.specs.Result.{result_ok}
use Rattle.std.specs.Str.{bytes_eq}
use Rattle.std.specs.Cmp.Lexicographic.{same_text}
use Rattle.std.proofs.lemmas.Bool.{cases_Bool}
use Rattle.x3d_numerals.specs.Reading.{numeral}
use Rattle.x3d_numerals.proofs.Numerals.{numeral_sound}
use Rattle.x3d_values.specs.declared.vector.Vec3.{Vec3}
use Rattle.x3d_values.specs.declared.pointing.Point.{Point}
use Rattle.share_law.specs.declared.step.Step.{Step}
use Rattle.share_law.specs.declared.step.Step.TheVariants.{HostClock, HostPacket, HostAck, HostTake}
use Rattle.share_law.specs.declared.step.Step.TheVariants.{ViewerOffer, ViewerResend, ViewerAsk}
use Rattle.share_law.specs.declared.step.Step.TheVariants.{ViewerTake, ViewerSave, ViewerRewind}
use Rattle.share_law.specs.declared.step.Step.TheVariants.{HostDropBelow, HostFloorPacket}
use Rattle.share_law.specs.declared.step.Step.TheVariants.{PiecePacket, ViewerGather, ViewerJoin, ViewerForget}
use Rattle.app_jobs.specs.Points.{word, behind, number_below, vector_of, IsNumber, AreNumerals}
use Rattle.app_jobs.specs.Schedule.{number, clock_step, given, give_step, paired, two_numbers, rewound, rewind_step, point, read_point, offered, offer_step}
use Rattle.app_jobs.specs.Schedule.{host_step, viewer_step, piece_step, named_step, step_of, spaced, IsCall, IsClockAt, IsGivenHost, IsOffer, IsStepLine}
use Rattle.app_jobs.proofs.PointLemmas.{cut_word, word_filled, ok_from, numeral_filled, number_from, vector_from, bit}
use Rattle.app_jobs.proofs.WrittenNumbers.{mapped, AreWritten, one_from, written_one, written_more, named, called, called_by}

-- ---- steps of the host

clock_from : (line : List ℕ) (s : Step) → bytes_eq (word line) (codes "clock") ≡ true → clock_step (behind line) ≡ Some s → IsStepLine line s
unfolding clock_step
clock_from line s is e =
    let m = mapped (λ t. HostClock t) (result_ok (numeral (behind line))) s e in
    let read : numeral (behind line) ≡ Ok m.value = ok_from (numeral (behind line)) m.value m.is in
    let filled : 0 < length (behind line) = numeral_filled (behind line) m.value read in
    let clock : IsClockAt line m.value =
    record { text = behind line; words = named line (codes "clock") (behind line) is filled refl; time = numeral_sound (behind line) m.value read } in
    subst (λ s. IsStepLine line s) m.same clock

given_from : (line text : List ℕ) (p : Option ℕ) (s : Step) → bytes_eq (word line) (codes "give") ≡ true → text ≡ behind line
    → number (word text) ≡ p → given p (behind text) ≡ Some s → IsStepLine line s
given_from line text None s is at_text number_is e = absurd (cc)
given_from line text (Some p) s is at_text number_is e = elim (cases_Bool (bytes_eq (behind text) (codes "host"))) [
  | inl host ↦
      let some = rw host at e in
      let same : HostTake p ≡ s = cc in
      let one = one_from (word text) p number_is in
      let who : behind text ≡ codes "host" = same_text (behind text) (codes "host") (sym host) in
      let some_behind : 0 < length (behind text) = rw who (omega arith) in
      let words : text ≡ word text ++ (32 ∷ codes "host") = cut_word text some_behind ∙ ap (λ t. word text ++ (32 ∷ t)) who in
      let filled : 0 < length (behind line) = rw (← at_text) (word_filled text one.filled) in
      let host : IsGivenHost line p =
      record { text = word text; words = named line (codes "give") (word text ++ (32 ∷ codes "host")) is filled (sym at_text ∙ words); number = one.numbers } in
      subst (λ s. IsStepLine line s) same host
  | inr other ↦
      let rest = rw other at e in
      let m = mapped (λ viewer. ViewerTake viewer p) (number (behind text)) s rest in
      let w : AreWritten text (p ∷ m.value ∷ []) = written_more text p (m.value ∷ []) number_is (written_one (behind text) m.value m.is) in
      subst (λ s. IsStepLine line s) m.same (called_by line text (codes "give") (p ∷ m.value ∷ []) is at_text w)
]

give_from : (line : List ℕ) (s : Step) → bytes_eq (word line) (codes "give") ≡ true → give_step (behind line) ≡ Some s → IsStepLine line s
unfolding give_step
give_from line s is e = given_from line (behind line) (number (word (behind line))) s is refl refl e

host_from : (line : List ℕ) (s : Step) → host_step (word line) (behind line) ≡ Some s → IsStepLine line s
unfolding host_step
host_from line s e = elim (cases_Bool (bytes_eq (word line) (codes "clock"))) [
  | inl clock ↦ clock_from line s clock (rw clock at e)
  | inr no_clock ↦
      let e = rw no_clock at e in
      elim (cases_Bool (bytes_eq (word line) (codes "packet"))) [
        | inl packet ↦
            let m = mapped (λ n. HostPacket n) (number (behind line)) s (rw packet at e) in
            subst (λ s. IsStepLine line s) m.same (called line (codes "packet") (m.value ∷ []) packet (written_one (behind line) m.value m.is))
        | inr no_packet ↦
            let e = rw no_packet at e in
            elim (cases_Bool (bytes_eq (word line) (codes "ack"))) [
              | inl ack ↦
                  let m = mapped (λ v. HostAck v) (number (behind line)) s (rw ack at e) in
                  subst (λ s. IsStepLine line s) m.same (called line (codes "ack") (m.value ∷ []) ack (written_one (behind line) m.value m.is))
              | inr no_ack ↦
                  let e = rw no_ack at e in
                  elim (cases_Bool (bytes_eq (word line) (codes "give"))) [
                    | inl give ↦ give_from line s give (rw give at e)
                    | inr no_give ↦
                        let e = rw no_give at e in
                        elim (cases_Bool (bytes_eq (word line) (codes "floor"))) [
                          | inl floor ↦
                              let m = mapped (λ f. HostDropBelow f) (number (behind line)) s (rw floor at e) in
                              subst (λ s. IsStepLine line s) m.same (called line (codes "floor") (m.value ∷ []) floor (written_one (behind line) m.value m.is))
                          | inr no_floor ↦ let none = rw no_floor at e in absurd (cc)
                        ]
                  ]
            ]
      ]
]

-- ---- steps of a viewer

paired_from : (text : List ℕ) (a b : Option ℕ) (p : ℕ × ℕ) → number (word text) ≡ a → number (behind text) ≡ b → paired a b ≡ Some p → AreWritten text (p.0 ∷ p.1 ∷ [])
paired_from text None b p a_is b_is e = absurd (cc)
paired_from text (Some a) None p a_is b_is e = absurd (cc)
paired_from text (Some a) (Some b) p a_is b_is e =
    let same : (a, b) ≡ p = cc in
    subst (λ (q : ℕ × ℕ). AreWritten text (q.0 ∷ q.1 ∷ [])) same (written_more text a (b ∷ []) a_is (written_one (behind text) b b_is))

written_two : (text : List ℕ) (p : ℕ × ℕ) → two_numbers text ≡ Some p → AreWritten text (p.0 ∷ p.1 ∷ [])
unfolding two_numbers
written_two text p e = paired_from text (number (word text)) (number (behind text)) p refl refl e

-- the step that two numbers behind a name make
two_from : (line name : List ℕ) (make : ℕ × ℕ → Step) (s : Step) → ((p : ℕ × ℕ) → IsCall line name (p.0 ∷ p.1 ∷ []) → IsStepLine line (make p))
    → bytes_eq (word line) name ≡ true → option_map make (two_numbers (behind line)) ≡ Some s → IsStepLine line s
two_from line name make s is_step is e =
    let m = mapped make (two_numbers (behind line)) s e in
    subst (λ s. IsStepLine line s) m.same (is_step m.value (called line name (m.value.0 ∷ m.value.1 ∷ []) is (written_two (behind line) m.value m.is)))

rewound_from : (line text rest : List ℕ) (v n b : Option ℕ) (s : Step) → bytes_eq (word line) (codes "rewind") ≡ true → text ≡ behind line
    → rest ≡ behind text → number (word text) ≡ v → number (word rest) ≡ n → number (behind rest) ≡ b → rewound v n b ≡ Some s → IsStepLine line s
rewound_from line text rest None n b s is at_text at_rest v_is n_is b_is e = absurd (cc)
rewound_from line text rest (Some v) None b s is at_text at_rest v_is n_is b_is e = absurd (cc)
rewound_from line text rest (Some v) (Some n) None s is at_text at_rest v_is n_is b_is e = absurd (cc)
rewound_from line text rest (Some v) (Some n) (Some b) s is at_text at_rest v_is n_is b_is e =
    let same : ViewerRewind v n b ≡ s = cc in
    let two : AreWritten rest (n ∷ b ∷ []) = written_more rest n (b ∷ []) n_is (written_one (behind rest) b b_is) in
    let three : AreWritten text (v ∷ n ∷ b ∷ []) = written_more text v (n ∷ b ∷ []) v_is (rw at_rest at two) in
    subst (λ s. IsStepLine line s) same (called_by line text (codes "rewind") (v ∷ n ∷ b ∷ []) is at_text three)

rewind_from : (line : List ℕ) (s : Step) → bytes_eq (word line) (codes "rewind") ≡ true → rewind_step (behind line) ≡ Some s → IsStepLine line s
unfolding rewind_step
rewind_from line s is e =
    let text : List ℕ = behind line in
    rewound_from line text (behind text) (number (word text)) (number (word (behind text))) (number (behind (behind text))) s is refl refl refl refl refl e

-- ---- offers

record IsPointed (down : Option ℕ) (origin dir : Option Vec3) (p : Point) : Type 0 where
  n : ℕ
  down_is : down ≡ Some n
  button : (n == 1) ≡ p.down
  origin_is : origin ≡ Some p.origin
  dir_is : dir ≡ Some p.dir

pointed_from : (down : Option ℕ) (origin dir : Option Vec3) (p : Point) → point down origin dir ≡ Some p → IsPointed down origin dir p
pointed_from None origin dir p e = absurd (cc)
pointed_from (Some n) None dir p e = absurd (cc)
pointed_from (Some n) (Some o) None p e = absurd (cc)
pointed_from (Some n) (Some o) (Some d) p e =
    let same : record { down = n == 1; origin = o; dir = d } ≡ p = cc in
    subst (λ (q : Point). IsPointed (Some n) (Some o) (Some d) q) same (record { n = n; down_is = refl; button = refl; origin_is = refl; dir_is = refl })

-- the words of a point
record ArePoint (text : List ℕ) (p : Point) : Type 0 where
  down : List ℕ
  ox : List ℕ
  oy : List ℕ
  oz : List ℕ
  dx : List ℕ
  dy : List ℕ
  dz : List ℕ
  words : text ≡ spaced (down ∷ ox ∷ oy ∷ oz ∷ dx ∷ dy ∷ dz ∷ [])
  button : IsNumber down (if p.down then 1 else 0)
  origin : AreNumerals ox oy oz p.origin
  direction : AreNumerals dx dy dz p.dir
  filled : 0 < length text

point_from : (text : List ℕ) (p : Point) → read_point text ≡ Some p → ArePoint text p
unfolding read_point
point_from text p e =
    let x : List ℕ = behind text in
    let y : List ℕ = behind x in
    let z : List ℕ = behind y in
    let d : List ℕ = behind z in
    let dy : List ℕ = behind d in
    let dz : List ℕ = behind dy in
    let g = pointed_from (number_below 2 (word text)) (vector_of (word x) (word y) (word z)) (vector_of (word d) (word dy) dz) p e in
    let n = number_from 2 (word text) g.n g.down_is in
    let o = vector_from (word x) (word y) (word z) p.origin g.origin_is in
    let v = vector_from (word d) (word dy) dz p.dir g.dir_is in
    let button : g.n ≡ (if p.down then 1 else 0) = bit g.n n.low ∙ ap (λ (t : Bool). if t then 1 else 0) g.button in
    let at_dy : dy ≡ word dy ++ (32 ∷ dz) = cut_word dy v.z_filled in
    let at_d : d ≡ word d ++ (32 ∷ dy) = cut_word d (word_filled dy v.y_filled) in
    let at_z : z ≡ word z ++ (32 ∷ d) = cut_word z (word_filled d v.x_filled) in
    let at_y : y ≡ word y ++ (32 ∷ z) = cut_word y (word_filled z o.z_filled) in
    let at_x : x ≡ word x ++ (32 ∷ y) = cut_word x (word_filled y o.y_filled) in
    let at_text : text ≡ word text ++ (32 ∷ x) = cut_word text (word_filled x o.x_filled) in
    record {
      down = word text;
      ox = word x;
      oy = word y;
      oz = word z;
      dx = word d;
      dy = word dy;
      dz = dz;
      words =
          at_text
          ∙ ap (λ l. word text ++ (32 ∷ l))
          (at_x
          ∙ ap (λ l. word x ++ (32 ∷ l))
          (at_y
          ∙ ap (λ l. word y ++ (32 ∷ l))
          (at_z ∙ ap (λ l. word z ++ (32 ∷ l)) (at_d ∙ ap (λ l. word d ++ (32 ∷ l)) at_dy))));
      button = rw (← button) n.number;
      origin = o.numerals;
      direction = v.numerals;
      filled = word_filled text n.filled;
    }

offered_from : (line text : List ℕ) (v : Option ℕ) (p : Option Point) (s : Step) → bytes_eq (word line) (codes "offer") ≡ true → text ≡ behind line
    → number (word text) ≡ v → read_point (behind text) ≡ p → offered v p ≡ Some s → IsStepLine line s
offered_from line text None p s is at_text v_is p_is e = absurd (cc)
offered_from line text (Some v) None s is at_text v_is p_is e = absurd (cc)
offered_from line text (Some v) (Some p) s is at_text v_is p_is e =
    let same : ViewerOffer v p ≡ s = cc in
    let one = one_from (word text) v v_is in
    let w = point_from (behind text) p p_is in
    let words : text ≡ word text ++ (32 ∷ spaced (w.down ∷ w.ox ∷ w.oy ∷ w.oz ∷ w.dx ∷ w.dy ∷ w.dz ∷ [])) =
    cut_word text w.filled ∙ ap (λ t. word text ++ (32 ∷ t)) w.words in
    let filled : 0 < length (behind line) = rw (← at_text) (word_filled text one.filled) in
    let offer : IsOffer line v p = record {
      who = word text;
      down = w.down;
      ox = w.ox;
      oy = w.oy;
      oz = w.oz;
      dx = w.dx;
      dy = w.dy;
      dz = w.dz;
      words = named line (codes "offer") (spaced (word text ∷ w.down ∷ w.ox ∷ w.oy ∷ w.oz ∷ w.dx ∷ w.dy ∷ w.dz ∷ [])) is filled (sym at_text ∙ words);
      viewer_is = one.numbers;
      button = w.button;
      origin = w.origin;
      direction = w.direction;
    } in
    subst (λ s. IsStepLine line s) same offer

offer_from : (line : List ℕ) (s : Step) → bytes_eq (word line) (codes "offer") ≡ true → offer_step (behind line) ≡ Some s → IsStepLine line s
unfolding offer_step
offer_from line s is e = offered_from line (behind line) (number (word (behind line))) (read_point (behind (behind line))) s is refl refl refl e

viewer_from : (line : List ℕ) (s : Step) → viewer_step (word line) (behind line) ≡ Some s → IsStepLine line s
unfolding viewer_step
viewer_from line s e = elim (cases_Bool (bytes_eq (word line) (codes "offer"))) [
  | inl offer ↦ offer_from line s offer (rw offer at e)
  | inr no_offer ↦
      let e = rw no_offer at e in
      elim (cases_Bool (bytes_eq (word line) (codes "resend"))) [
        | inl resend ↦ two_from line (codes "resend") (λ p. ViewerResend p.0 p.1) s (λ p c. c) resend (rw resend at e)
        | inr no_resend ↦
            let e = rw no_resend at e in
            elim (cases_Bool (bytes_eq (word line) (codes "ask"))) [
              | inl ask ↦
                  let m = mapped (λ v. ViewerAsk v) (number (behind line)) s (rw ask at e) in
                  subst (λ s. IsStepLine line s) m.same (called line (codes "ask") (m.value ∷ []) ask (written_one (behind line) m.value m.is))
              | inr no_ask ↦
                  let e = rw no_ask at e in
                  elim (cases_Bool (bytes_eq (word line) (codes "save"))) [
                    | inl save ↦
                        let m = mapped (λ v. ViewerSave v) (number (behind line)) s (rw save at e) in
                        subst (λ s. IsStepLine line s) m.same (called line (codes "save") (m.value ∷ []) save (written_one (behind line) m.value m.is))
                    | inr no_save ↦
                        let e = rw no_save at e in
                        elim (cases_Bool (bytes_eq (word line) (codes "rewind"))) [
                          | inl rewind ↦ rewind_from line s rewind (rw rewind at e)
                          | inr no_rewind ↦ let none = rw no_rewind at e in absurd (cc)
                        ]
                  ]
            ]
      ]
]

-- ---- pieces

-- of `gather P V` the packet stands first
gather_from : (line : List ℕ) (s : Step) → bytes_eq (word line) (codes "gather") ≡ true → option_map (λ p. ViewerGather p.1 p.0) (two_numbers (behind line)) ≡ Some s → IsStepLine line s
gather_from line s is e = two_from line (codes "gather") (λ p. ViewerGather p.1 p.0) s (λ p c. c) is e

piece_from : (line : List ℕ) (s : Step) → piece_step (word line) (behind line) ≡ Some s → IsStepLine line s
unfolding piece_step
piece_from line s e = elim (cases_Bool (bytes_eq (word line) (codes "piece"))) [
  | inl piece ↦ two_from line (codes "piece") (λ p. PiecePacket p.0 p.1) s (λ p c. c) piece (rw piece at e)
  | inr no_piece ↦
      let e = rw no_piece at e in
      elim (cases_Bool (bytes_eq (word line) (codes "gather"))) [
        | inl gather ↦ gather_from line s gather (rw gather at e)
        | inr no_gather ↦
            let e = rw no_gather at e in
            elim (cases_Bool (bytes_eq (word line) (codes "join"))) [
              | inl join ↦ two_from line (codes "join") (λ p. ViewerJoin p.0 p.1) s (λ p c. c) join (rw join at e)
              | inr no_join ↦
                  let e = rw no_join at e in
                  elim (cases_Bool (bytes_eq (word line) (codes "forget"))) [
                    | inl forget ↦
                        let m = mapped (λ v. ViewerForget v) (number (behind line)) s (rw forget at e) in
                        subst (λ s. IsStepLine line s) m.same (called line (codes "forget") (m.value ∷ []) forget (written_one (behind line) m.value m.is))
                    | inr no_forget ↦ let none = rw no_forget at e in absurd (cc)
                  ]
            ]
      ]
]

-- ---- the line

step_by : (line : List ℕ) (s : Step) (host viewer piece : Option Step) → host_step (word line) (behind line) ≡ host → viewer_step (word line) (behind line) ≡ viewer
    → piece_step (word line) (behind line) ≡ piece → option_or host (option_or viewer piece) ≡ Some s → IsStepLine line s
step_by line s (Some h) viewer piece at_host at_viewer at_piece e = host_from line s (at_host ∙ e)
step_by line s None (Some v) piece at_host at_viewer at_piece e = viewer_from line s (at_viewer ∙ e)
step_by line s None None piece at_host at_viewer at_piece e = piece_from line s (at_piece ∙ e)

named_from : (line : List ℕ) (s : Step) → named_step (word line) (behind line) ≡ Some s → IsStepLine line s
named_from line s e = step_by line s (host_step (word line) (behind line)) (viewer_step (word line) (behind line)) (piece_step (word line) (behind line)) refl refl refl e

pub step_is : (line : List ℕ) (s : Step) → step_of line ≡ Some s → IsStepLine line s
unfolding step_of
step_is line s e = elim (cases_Bool (bytes_eq line (codes "notice"))) [
  | inl notice ↦
      let some = rw notice at e in
      let same : HostFloorPacket ≡ s = cc in
      let floor : IsStepLine line HostFloorPacket = same_text line (codes "notice") (sym notice) in
      subst (λ s. IsStepLine line s) same floor
  | inr named ↦ named_from line s (rw named at e)
]
