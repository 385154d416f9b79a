-- A line that asks for a pointer, in its words.
use Rattle.std.proofs.Common.{◌≡◌, ℕ, zero, suc, ◌+◌, ◌<◌, ◌==◌, ℤ, pos, negsuc, List, [], ◌∷◌, ◌++◌, length, take, drop, Bool, true, false, codes, Option, Some, None}
use Rattle.std.proofs.Common.{Result, Ok, Err, refl, sym, ap, ◌∙◌, inl, inr, arith, eqb-true, take-append-drop}
use Rattle.std.specs.Prelude.{◌/◌, nat_lt, if◌then◌else◌}
use Rattle.std.specs.Result.{result_ok}
use Rattle.std.specs.List.{position_or_len, before_first, after_first}
use Rattle.std.specs.Str.{bytes_eq}
use Rattle.std.specs.Cmp.Lexicographic.{same_text}
use Rattle.std.proofs.lemmas.Bool.{cases_Bool, ltb-true}
use Rattle.x3d_numerals.specs.Reading.{is_digits, numeral, answered, parts_of, unsigned_of, hexadecimal_of, decimal_of, decimal_behind, decimal_with, exponent_of, behind_fraction, fraction_of, behind_sign, sign_of}
use Rattle.x3d_numerals.proofs.Numerals.{numeral_sound}
use Rattle.x3d_values.specs.Pointing.{PointerView, RayView, is_ray}
use Rattle.x3d_values.specs.Ranges.{max_viewers}
use Rattle.x3d_values.specs.declared.vector.Vec3.{Vec3}
use Rattle.app_jobs.specs.Points.{is_space, word, behind, units_below, number_below, vector, vector_of, sight, pointing, sight_of, pointing_of, pointed, IsNumber, AreNumerals, IsPoint}
use Rattle.app_jobs.proofs.JobLemmas.{position-cons_no, before-cons_no, before-cons_yes}

-- ---- a text is its first word, a space and what stands behind it

pub after-cons_no : (x : ℕ) (xs : List ℕ) → is_space x ≡ false → after_first is_space (x ∷ xs) ≡ after_first is_space xs
after-cons_no x xs e =
    let n : ℕ = position_or_len is_space xs in
    let more : suc n + 1 ≡ suc (n + 1) = omega arith in
    ap (λ k. drop (k + 1) (x ∷ xs)) (position-cons_no is_space x xs e) ∙ (ap (λ k. drop k (x ∷ xs)) more ∙ refl)

pub after-cons_yes : (x : ℕ) (xs : List ℕ) → is_space x ≡ true → after_first is_space (x ∷ xs) ≡ xs
after-cons_yes x xs e = rw e refl

cut : (text : List ℕ) → 0 < length (after_first is_space text) → text ≡ before_first is_space text ++ (32 ∷ after_first is_space text)
cut [] h = absurd (omega arith)
cut (x ∷ xs) h = elim (cases_Bool (is_space x)) [
  | inl is ↦
      let space : x ≡ 32 = eqb-true x 32 is in
      ap (λ c. c ∷ xs) space
      ∙ (ap (λ l. 32 ∷ l) (sym (after-cons_yes x xs is)) ∙ ap (λ w. w ++ (32 ∷ after_first is_space (x ∷ xs))) (sym (before-cons_yes is_space x xs is)))
  | inr other ↦
      let later : 0 < length (after_first is_space xs) = rw (after-cons_no x xs other) at h in
      ap (λ l. x ∷ l) (cut xs later)
      ∙ (ap (λ w. w ++ (32 ∷ after_first is_space xs)) (sym (before-cons_no is_space x xs other))
      ∙ ap (λ r. before_first is_space (x ∷ xs) ++ (32 ∷ r)) (sym (after-cons_no x xs other)))
]

pub cut_word : (text : List ℕ) → 0 < length (behind text) → text ≡ word text ++ (32 ∷ behind text)
unfolding word behind
cut_word text h = cut text h

pub word_filled : (text : List ℕ) → 0 < length (word text) → 0 < length text
unfolding word
word_filled [] h = absurd (omega arith)
word_filled (x ∷ xs) h = omega arith

-- ---- numbers

pub ok_from : {X E : Type 0} (r : Result X E) (x : X) → result_ok r ≡ Some x → r ≡ Ok x
ok_from (Ok y) x e = let same : y ≡ x = cc in ap Ok same
ok_from (Err f) x e = absurd (cc)

no_numeral : (n : ℤ) → numeral [] ≡ Ok n → ⊥
unfolding numeral answered parts_of unsigned_of hexadecimal_of decimal_of decimal_behind decimal_with exponent_of behind_fraction fraction_of behind_sign sign_of
no_numeral n e = absurd (cc)

pub numeral_filled : (text : List ℕ) (n : ℤ) → numeral text ≡ Ok n → 0 < length text
numeral_filled [] n e = absurd (no_numeral n e)
numeral_filled (x ∷ xs) n e = omega arith

-- a number below a limit
pub record IsBelow (limit : ℕ) (text : List ℕ) (n : ℕ) : Type 0 where
  pub number : IsNumber text n
  pub low : nat_lt n limit ≡ true
  pub filled : 0 < length text

below_from : (limit : ℕ) (text : List ℕ) (n : ℕ) → is_digits 10 text ≡ true → (r : Option ℤ) → result_ok (numeral text) ≡ r → units_below limit r ≡ Some n → IsBelow limit text n
below_from limit text n d None r e = absurd (cc)
below_from limit text n d (Some (negsuc m)) r e = absurd (cc)
below_from limit text n d (Some (pos m)) r e = elim (cases_Bool (nat_lt (m / 1000000) limit)) [
  | inl low ↦
      let same = rw low at e in
      let is : m / 1000000 ≡ n = cc in
      let read : numeral text ≡ Ok (pos m) = ok_from (numeral text) (pos m) r in
      record {
        number = record { digits = d; millionths = m; numeral = numeral_sound text (pos m) read; units = sym is };
        low = rw (← is) low;
        filled = numeral_filled text (pos m) read;
      }
  | inr high ↦ let none = rw high at e in absurd (cc)
]

pub number_from : (limit : ℕ) (text : List ℕ) (n : ℕ) → number_below limit text ≡ Some n → IsBelow limit text n
unfolding number_below
number_from limit text n e = elim (cases_Bool (is_digits 10 text)) [
  | inl d ↦ let below = rw d at e in below_from limit text n d (result_ok (numeral text)) refl below
  | inr other ↦ let none = rw other at e in absurd (cc)
]

-- three numerals
pub record IsVector (x y z : List ℕ) (v : Vec3) : Type 0 where
  pub numerals : AreNumerals x y z v
  pub x_filled : 0 < length x
  pub y_filled : 0 < length y
  pub z_filled : 0 < length z

vector_by : (x y z : List ℕ) (v : Vec3) (a b c : Option ℤ) → result_ok (numeral x) ≡ a → result_ok (numeral y) ≡ b → result_ok (numeral z) ≡ c → vector a b c ≡ Some v → IsVector x y z v
vector_by x y z v None b c p q r e = absurd (cc)
vector_by x y z v (Some a) None c p q r e = absurd (cc)
vector_by x y z v (Some a) (Some b) None p q r e = absurd (cc)
vector_by x y z v (Some a) (Some b) (Some c) p q r e =
    let same : record { x = a; y = b; z = c } ≡ v = cc in
    let at_x : numeral x ≡ Ok v.x = ok_from (numeral x) a p ∙ ap (λ (u : Vec3). Ok u.x) same in
    let at_y : numeral y ≡ Ok v.y = ok_from (numeral y) b q ∙ ap (λ (u : Vec3). Ok u.y) same in
    let at_z : numeral z ≡ Ok v.z = ok_from (numeral z) c r ∙ ap (λ (u : Vec3). Ok u.z) same in
    record {
      numerals = record { x_is = numeral_sound x v.x at_x; y_is = numeral_sound y v.y at_y; z_is = numeral_sound z v.z at_z };
      x_filled = numeral_filled x v.x at_x;
      y_filled = numeral_filled y v.y at_y;
      z_filled = numeral_filled z v.z at_z;
    }

pub vector_from : (x y z : List ℕ) (v : Vec3) → vector_of x y z ≡ Some v → IsVector x y z v
unfolding vector_of
vector_from x y z v e = vector_by x y z v (result_ok (numeral x)) (result_ok (numeral y)) (result_ok (numeral z)) refl refl refl e

-- ---- the ray

-- six words, which spaces part
record IsSight (text : List ℕ) (s : RayView) : Type 0 where
  ox : List ℕ
  oy : List ℕ
  oz : List ℕ
  dx : List ℕ
  dy : List ℕ
  dz : List ℕ
  words : text ≡ ox ++ (32 ∷ (oy ++ (32 ∷ (oz ++ (32 ∷ (dx ++ (32 ∷ (dy ++ (32 ∷ dz)))))))))
  origin : AreNumerals ox oy oz s.origin
  direction : AreNumerals dx dy dz s.dir
  ray : is_ray s ≡ true
  filled : 0 < length text

record IsSeen (origin dir : Option Vec3) (s : RayView) : Type 0 where
  origin_is : origin ≡ Some s.origin
  dir_is : dir ≡ Some s.dir
  ray : is_ray s ≡ true

seen_from : (origin dir : Option Vec3) (s : RayView) → sight origin dir ≡ Some s → IsSeen origin dir s
seen_from None dir s e = absurd (cc)
seen_from (Some o) None s e = absurd (cc)
seen_from (Some o) (Some d) s e = elim (cases_Bool (is_ray (record { origin = o; dir = d }))) [
  | inl is ↦
      let some = rw is at e in
      let same : record { origin = o; dir = d } ≡ s = cc in
      record {
        origin_is = ap (λ (u : RayView). Some u.origin) same;
        dir_is = ap (λ (u : RayView). Some u.dir) same;
        ray = ap (λ (u : RayView). is_ray u) (sym same) ∙ is;
      }
  | inr other ↦ let none = rw other at e in absurd (cc)
]

sight_from : (text : List ℕ) (s : RayView) → sight_of text ≡ Some s → IsSight text s
unfolding sight_of
sight_from text s e =
    let y : List ℕ = behind text in
    let z : List ℕ = behind y in
    let d : List ℕ = behind z in
    let dy : List ℕ = behind d in
    let dz : List ℕ = behind dy in
    let seen = seen_from (vector_of (word text) (word y) (word z)) (vector_of (word d) (word dy) dz) s e in
    let o = vector_from (word text) (word y) (word z) s.origin seen.origin_is in
    let v = vector_from (word d) (word dy) dz s.dir seen.dir_is in
    let at_dy : dy ≡ word dy ++ (32 ∷ dz) = cut_word dy v.z_filled in
    let at_d : d ≡ word d ++ (32 ∷ dy) = cut_word d (word_filled dy v.y_filled) in
    let at_z : z ≡ word z ++ (32 ∷ d) = cut_word z (word_filled d v.x_filled) in
    let at_y : y ≡ word y ++ (32 ∷ z) = cut_word y (word_filled z o.z_filled) in
    let at_text : text ≡ word text ++ (32 ∷ y) = cut_word text (word_filled y o.y_filled) in
    record {
      ox = word text;
      oy = word y;
      oz = word z;
      dx = word d;
      dy = word dy;
      dz = dz;
      words =
          at_text
          ∙ ap (λ l. word text ++ (32 ∷ l))
          (at_y
          ∙ ap (λ l. word y ++ (32 ∷ l))
          (at_z ∙ ap (λ l. word z ++ (32 ∷ l)) (at_d ∙ ap (λ l. word d ++ (32 ∷ l)) at_dy)));
      origin = o.numerals;
      direction = v.numerals;
      ray = seen.ray;
      filled = word_filled text o.x_filled;
    }

-- ---- the line

record IsPointing (who down : Option ℕ) (ray : Option RayView) (p : PointerView) : Type 0 where
  n : ℕ
  who_is : who ≡ Some p.who
  down_is : down ≡ Some n
  button : p.down ≡ (n == 1)
  ray_is : ray ≡ Some p.ray

pointing_by : (who down : Option ℕ) (ray : Option RayView) (p : PointerView) → pointing who down ray ≡ Some p → IsPointing who down ray p
pointing_by None down ray p e = absurd (cc)
pointing_by (Some w) None ray p e = absurd (cc)
pointing_by (Some w) (Some d) None p e = absurd (cc)
pointing_by (Some w) (Some d) (Some r) p e =
    let same : record { who = w; down = d == 1; ray = r } ≡ p = cc in
    record {
      n = d;
      who_is = ap (λ (u : PointerView). Some u.who) same;
      down_is = refl;
      button = sym (ap (λ (u : PointerView). u.down) same);
      ray_is = ap (λ (u : PointerView). Some u.ray) same;
    }

-- 0 or 1
pub bit : (n : ℕ) → nat_lt n 2 ≡ true → n ≡ (if n == 1 then 1 else 0)
bit zero h = refl
bit (suc zero) h = refl
bit (suc (suc n)) h = absurd (omega (arith, ltb-true (suc (suc n)) 2 h))

words_from : (text line : List ℕ) (p : PointerView) → line ≡ codes "point " ++ text → pointing_of text ≡ Some p → IsPoint line p
unfolding pointing_of
words_from text line p whole e =
    let a : List ℕ = behind text in
    let b : List ℕ = behind a in
    let g = pointing_by (number_below max_viewers (word text)) (number_below 2 (word a)) (sight_of b) p e in
    let w = number_from max_viewers (word text) p.who g.who_is in
    let d = number_from 2 (word a) g.n g.down_is in
    let s = sight_from b p.ray g.ray_is in
    let down : g.n ≡ (if p.down then 1 else 0) = bit g.n d.low ∙ ap (λ (t : Bool). if t then 1 else 0) (sym g.button) in
    let at_a : a ≡ word a ++ (32 ∷ b) = cut_word a s.filled in
    let at_text : text ≡ word text ++ (32 ∷ a) = cut_word text (word_filled a d.filled) in
    record {
      who = word text;
      down = word a;
      ox = s.ox;
      oy = s.oy;
      oz = s.oz;
      dx = s.dx;
      dy = s.dy;
      dz = s.dz;
      words = whole ∙ ap (λ l. codes "point " ++ l) (at_text ∙ ap (λ l. word text ++ (32 ∷ l)) (at_a ∙ ap (λ l. word a ++ (32 ∷ l)) s.words));
      viewer = w.number;
      is_viewer = w.low;
      button = rw (← down) d.number;
      origin = s.origin;
      direction = s.direction;
      is_ray = s.ray;
    }

pub point_from : (line : List ℕ) (p : PointerView) → pointed line ≡ Some p → IsPoint line p
unfolding pointed
point_from line p e = elim (cases_Bool (bytes_eq (take 6 line) (codes "point "))) [
  | inl passes ↦
      let read : pointing_of (drop 6 line) ≡ Some p = rw passes at e in
      let first : take 6 line ≡ codes "point " = same_text (take 6 line) (codes "point ") (sym passes) in
      let whole : line ≡ codes "point " ++ drop 6 line = sym (take-append-drop 6 line) ∙ ap (λ w. w ++ drop 6 line) first in
      words_from (drop 6 line) line p whole read
  | inr fails ↦ let none = rw fails at e in absurd (cc)
]
