-- The line of an entry, and the numerals of its pointer.
use Rattle.std.proofs.Common.{◌≡◌, ℕ, ◌*◌, ◌/◌, ◌%◌, ◌<◌, ℤ, pos, negsuc, Bool, true, false, List, [], ◌∷◌, ◌++◌, codes}
use Rattle.std.proofs.Common.{decimal, refl, ap, subst, ◌∙◌, arith, append_assoc, append-nil}
use Rattle.std.specs.Prelude.{◌&&◌, if◌then◌else◌}
use Rattle.std.specs.Fmt.{digits}
use Rattle.std.proofs.lemmas.Bool.{and_parts, ltb-true}
use Rattle.std.proofs.lemmas.Bool.Decides.{nat_tests}
use Rattle.std.proofs.lemmas.Fmt.{decimal_is_IsNumeral}
use Rattle.x3d_numerals.specs.Numeral.{IsNumeral}
use Rattle.x3d_numerals.specs.NumberText.{IsLimited, fixed_text, fraction, number_text}
use Rattle.x3d_numerals.proofs.Runs.{is_digits_from}
use Rattle.x3d_numerals.proofs.Written.{numeral_of}
use Rattle.x3d_values.specs.Pointing.{PointerView, is_ray}
use Rattle.x3d_values.specs.Ranges.{coordinate_fits, coordinates_fit, is_viewer}
use Rattle.x3d_values.specs.declared.vector.Vec3.{Vec3}
use Rattle.share_entries.specs.Entry.{EntryView}
use Rattle.share_entries.specs.declared.entry.Source.{Source}
use Rattle.share_entries.specs.declared.entry.Source.TheVariants.{Clock, Offer}
use Rattle.app_jobs.specs.Points.{AreNumerals, IsNumber, IsPoint}
use Rattle.app_logs.specs.Steps.{down_digit, line_of}

-- ---- the line of an entry, without its end

-- the words of a pointer, as IsPoint joins them
abbrev words_of : (w : List ℕ) (g : List ℕ) (a b c d e f : List ℕ) → List ℕ
words_of w g a b c d e f =
    codes "point "
    ++ (w ++ (32
    ∷ (g ++ (32
    ∷ (a ++ (32 ∷ (b ++ (32 ∷ (c ++ (32 ∷ (d ++ (32 ∷ (e ++ (32 ∷ f))))))))))))))

abbrev bare_point : PointerView → List ℕ
bare_point p =
    words_of (decimal p.who) (down_digit p.down ∷ []) (number_text p.ray.origin.x) (number_text p.ray.origin.y) (number_text p.ray.origin.z)
    (number_text p.ray.dir.x) (number_text p.ray.dir.y) (number_text p.ray.dir.z)

abbrev pub bare_of : ℤ → Source → List ℕ
bare_of time Clock = codes "clock " ++ number_text time
bare_of time (Offer o) = bare_point o.pointer

abbrev pub bare : EntryView → List ℕ
bare e = bare_of e.time e.source

last_words : (d e f : List ℕ) → (32 ∷ d) ++ (32 ∷ e) ++ (32 ∷ f) ≡ 32 ∷ (d ++ (32 ∷ (e ++ (32 ∷ f))))
last_words d e f = ap (λ (l : List ℕ). 32 ∷ l) (append_assoc d (32 ∷ e) (32 ∷ f))

more_words : (a b c y : List ℕ) → ((32 ∷ a) ++ (32 ∷ b) ++ (32 ∷ c)) ++ y ≡ 32 ∷ (a ++ (32 ∷ (b ++ (32 ∷ (c ++ y)))))
more_words a b c y = ap (λ (l : List ℕ). 32 ∷ l) (append_assoc (a ++ (32 ∷ b)) (32 ∷ c) y ∙ append_assoc a (32 ∷ b) (32 ∷ (c ++ y)))

joined_words : (p w : List ℕ) (g : ℕ) (a b c d e f : List ℕ)
    → p ++ w ++ (32 ∷ g ∷ []) ++ ((32 ∷ a) ++ (32 ∷ b) ++ (32 ∷ c)) ++ ((32 ∷ d) ++ (32 ∷ e) ++ (32 ∷ f))
    ≡ p ++ (w ++ (32 ∷ ((g ∷ []) ++ (32 ∷ (a ++ (32 ∷ (b ++ (32 ∷ (c ++ (32 ∷ (d ++ (32 ∷ (e ++ (32 ∷ f))))))))))))))
joined_words p w g a b c d e f =
    append_assoc (p ++ w ++ (32 ∷ g ∷ [])) ((32 ∷ a) ++ (32 ∷ b) ++ (32 ∷ c)) ((32 ∷ d) ++ (32 ∷ e) ++ (32 ∷ f))
    ∙ append_assoc (p ++ w) (32 ∷ g ∷ []) (((32 ∷ a) ++ (32 ∷ b) ++ (32 ∷ c)) ++ ((32 ∷ d) ++ (32 ∷ e) ++ (32 ∷ f)))
    ∙ append_assoc p w ((32 ∷ g ∷ []) ++ (((32 ∷ a) ++ (32 ∷ b) ++ (32 ∷ c)) ++ ((32 ∷ d) ++ (32 ∷ e) ++ (32 ∷ f))))
    ∙ ap (λ (l : List ℕ). p ++ (w ++ (32 ∷ g ∷ l)))
    (ap (λ (l : List ℕ). ((32 ∷ a) ++ (32 ∷ b) ++ (32 ∷ c)) ++ l) (last_words d e f) ∙ more_words a b c (32 ∷ (d ++ (32 ∷ (e ++ (32 ∷ f))))))

pub line_is : (time : ℤ) (s : Source) → line_of time s ≡ bare_of time s ++ 10 ∷ []
line_is time Clock = refl
line_is time (Offer o) =
    let p = o.pointer in
    ap (λ (l : List ℕ). l ++ 10 ∷ [])
    (joined_words (codes "point ") (decimal p.who) (down_digit p.down) (number_text p.ray.origin.x) (number_text p.ray.origin.y) (number_text p.ray.origin.z)
    (number_text p.ray.dir.x) (number_text p.ray.dir.y) (number_text p.ray.dir.z))

-- ---- the words of a pointer are numerals

whole_text : (n : ℕ) → number_text (pos (n * 1000000)) ≡ decimal n
unfolding number_text fixed_text fraction
whole_text n =
    let whole : n * 1000000 / 1000000 ≡ n = omega arith in
    let rest : n * 1000000 % 1000000 ≡ 0 = omega arith in
    rw (whole, rest) (append-nil (decimal n))

whole_number : (n : ℕ) → n < 64 → IsNumber (decimal n) n
whole_number n few =
    let text = decimal_is_IsNumeral n (omega (arith, few)) in
    let limited : IsLimited (pos (n * 1000000)) = omega (arith, few) in
    record {
      digits = is_digits_from 10 (decimal n) text.0.1 text.0.0;
      millionths = n * 1000000;
      numeral = subst (λ (t : List ℕ). IsNumeral t (pos (n * 1000000))) (whole_text n) (numeral_of (pos (n * 1000000)) limited);
      units = omega arith;
    }

button : (down : Bool) → IsNumber (down_digit down ∷ []) (if down then 1 else 0)
unfolding digits
button true = whole_number 1 (omega arith)
button false = whole_number 0 (omega arith)

coordinate : (z : ℤ) → coordinate_fits z ≡ true → IsNumeral (number_text z) z
coordinate z fits = numeral_of z (limited z fits)
  where
    limited : (z : ℤ) → coordinate_fits z ≡ true → IsLimited z
    limited (pos n) fits = grind (arith, nat_tests)
    limited (negsuc n) fits = grind (arith, nat_tests)

coordinates : (v : Vec3) → coordinates_fit v ≡ true → AreNumerals (number_text v.x) (number_text v.y) (number_text v.z) v
coordinates v fits =
    let first = and_parts (coordinate_fits v.x) (coordinate_fits v.y && coordinate_fits v.z) fits in
    let rest = and_parts (coordinate_fits v.y) (coordinate_fits v.z) first.1 in
    record { x_is = coordinate v.x first.0; y_is = coordinate v.y rest.0; z_is = coordinate v.z rest.1 }

pub point_is : (p : PointerView) → is_viewer p.who ≡ true → is_ray p.ray ≡ true → IsPoint (bare_point p) p
point_is p viewer ray =
    let outer = and_parts (coordinates_fit p.ray.origin) _ ray in
    let inner = and_parts (coordinates_fit p.ray.dir) _ outer.1 in
    record {
      who = decimal p.who;
      down = down_digit p.down ∷ [];
      ox = number_text p.ray.origin.x;
      oy = number_text p.ray.origin.y;
      oz = number_text p.ray.origin.z;
      dx = number_text p.ray.dir.x;
      dy = number_text p.ray.dir.y;
      dz = number_text p.ray.dir.z;
      words = refl;
      viewer = whole_number p.who (ltb-true p.who 64 viewer);
      is_viewer = viewer;
      button = button p.down;
      origin = coordinates p.ray.origin outer.0;
      direction = coordinates p.ray.dir inner.0;
      is_ray = ray;
    }
