-- A line `point V D ox oy oz dx dy dz` of a job: a viewer, whether its button is down, and the
-- origin and the direction of its ray (our choice).
use Rattle.std.specs.Prelude.{◌≡◌, ℕ, ◌/◌, ◌==◌, nat_lt, ℤ, pos, negsuc, true, List, ◌∷◌, ◌++◌, drop, take, codes, Option, Some, None, if◌then◌else◌}
use Rattle.std.specs.Result.{result_ok}
use Rattle.std.specs.Str.{bytes_eq}
use Rattle.x3d_numerals.specs.Numeral.{IsNumeral}
use Rattle.x3d_numerals.specs.Reading.{is_digits, numeral}
use Rattle.x3d_values.specs.Pointing.{PointerView, RayView, is_ray, ray_of}
use Rattle.x3d_values.specs.Ranges.{is_viewer, max_viewers}
use Rattle.x3d_values.specs.declared.vector.Vec3.{Vec3}
pub use Rattle.share_rules.specs.Words.{is_space}
unfoldable pub use Rattle.share_rules.specs.Words.{word, behind}

-- ---- numbers

-- the whole units of a numeral, if they are below a limit
abbrev pub units_below : ℕ → Option ℤ → Option ℕ
units_below limit (Some (pos n)) = if nat_lt (n / 1000000) limit then Some (n / 1000000) else None
units_below limit (Some (negsuc n)) = None
units_below limit None = None

-- a number in decimal digits, if it is below a limit
unfoldable pub number_below : ℕ → List ℕ → Option ℕ
number_below limit text = if is_digits 10 text then units_below limit (result_ok (numeral text))
    else None

abbrev pub vector : Option ℤ → Option ℤ → Option ℤ → Option Vec3
vector (Some x) (Some y) (Some z) = Some (record { x = x; y = y; z = z })
vector (Some x) (Some y) None = None
vector (Some x) None z = None
vector None y z = None

-- three numerals of units, as millionths
unfoldable pub vector_of : List ℕ → List ℕ → List ℕ → Option Vec3
vector_of x y z = vector (result_ok (numeral x)) (result_ok (numeral y)) (result_ok (numeral z))

-- ---- the line

-- a ray, if its coordinates are in range and its direction isn't 0 0 0
abbrev pub sight : Option Vec3 → Option Vec3 → Option RayView
sight (Some origin) (Some dir) = ray_of origin dir
sight (Some origin) None = None
sight None dir = None

abbrev pub pointing : Option ℕ → Option ℕ → Option RayView → Option PointerView
pointing (Some who) (Some down) (Some ray) =
    Some (record { who = who; down = down == 1; ray = ray })
pointing (Some who) (Some down) None = None
pointing (Some who) None ray = None
pointing None down ray = None

-- the origin is three words, and the direction three more; the last word is the rest of the text
unfoldable pub sight_of : List ℕ → Option RayView
sight_of text =
    let y = behind text in
    let z = behind y in
    let dir = behind z in
    let dir_y = behind dir in
    sight (vector_of (word text) (word y) (word z))
    (vector_of (word dir) (word dir_y) (behind dir_y))

-- the pointer that the words after `point ` describe
unfoldable pub pointing_of : List ℕ → Option PointerView
pointing_of text =
    pointing (number_below max_viewers (word text)) (number_below 2 (word (behind text)))
    (sight_of (behind (behind text)))

-- the pointer of a line that begins with `point `
unfoldable pub pointed : List ℕ → Option PointerView
pointed line = if bytes_eq (take 6 line) (codes "point ") then pointing_of (drop 6 line) else None

-- -- what a line satisfies

-- the text is the decimal digits of the number
pub record IsNumber (text : List ℕ) (n : ℕ) : Type 0 where
  pub digits : is_digits 10 text ≡ true
  pub millionths : ℕ
  pub numeral : IsNumeral text (pos millionths)
  pub units : n ≡ millionths / 1000000

-- the texts are numerals of the three coordinates
pub record AreNumerals (x y z : List ℕ) (v : Vec3) : Type 0 where
  pub x_is : IsNumeral x v.x
  pub y_is : IsNumeral y v.y
  pub z_is : IsNumeral z v.z

-- the words of the line, parted by single spaces, are those of the pointer
pub record IsPoint (line : List ℕ) (p : PointerView) : Type 0 where
  pub who : List ℕ
  pub down : List ℕ
  pub ox : List ℕ
  pub oy : List ℕ
  pub oz : List ℕ
  pub dx : List ℕ
  pub dy : List ℕ
  pub dz : List ℕ
  pub words :
      line
      ≡ codes "point "
      ++ (who ++ (32
      ∷ (down ++ (32
      ∷ (ox ++ (32 ∷ (oy ++ (32 ∷ (oz ++ (32 ∷ (dx ++ (32 ∷ (dy ++ (32 ∷ dz))))))))))))))
  pub viewer : IsNumber who p.who
  pub is_viewer : is_viewer p.who ≡ true
  pub button : IsNumber down (if p.down then 1 else 0)
  pub origin : AreNumerals ox oy oz p.ray.origin
  pub direction : AreNumerals dx dy dz p.ray.dir
  pub is_ray : is_ray p.ray ≡ true
