-- The entries of a log as the lines of a job (our choice).
use Rattle.std.specs.Prelude.{ℕ, ℤ, Bool, List, [], ◌∷◌, ◌++◌, codes, decimal, if◌then◌else◌}
use Rattle.std.specs.List.{flat_map}
use Rattle.x3d_numerals.specs.NumberText.{number_text}
use Rattle.x3d_values.specs.Pointing.{PointerView}
use Rattle.x3d_values.specs.declared.vector.Vec3.{Vec3}
use Rattle.share_entries.specs.Entry.{EntryView}
use Rattle.share_entries.specs.declared.entry.Source.{Source}
use Rattle.share_entries.specs.declared.entry.Source.TheVariants.{Clock, Offer}

-- `clock T`, in seconds
abbrev pub clock_line : ℤ → List ℕ
clock_line time = codes "clock " ++ number_text time ++ 10 ∷ []

-- three numbers in units, each after a space
abbrev pub vector_words : Vec3 → List ℕ
vector_words v =
    (32 ∷ number_text v.x) ++ (32 ∷ number_text v.y) ++ (32 ∷ number_text v.z)

-- 1 if the button is down
abbrev pub down_digit : Bool → ℕ
down_digit down = if down then 49 else 48

-- `point V D ox oy oz dx dy dz`
abbrev pub point_line : PointerView → List ℕ
point_line p =
    codes "point " ++ decimal p.who ++ (32 ∷ down_digit p.down ∷ []) ++ vector_words p.ray.origin
    ++ vector_words p.ray.dir ++ 10 ∷ []

-- the line of an input; a point's time is 1 microsecond after the input before it
abbrev pub line_of : ℤ → Source → List ℕ
line_of time Clock = clock_line time
line_of time (Offer o) = point_line o.pointer

abbrev pub step_line : EntryView → List ℕ
step_line e = line_of e.time e.source

abbrev pub steps_text : List EntryView → List ℕ
steps_text entries = flat_map step_line entries
