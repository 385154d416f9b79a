-- The two forms of a datagram that has the number of an input (our choice).
use Rattle.std.specs.Prelude.{ℕ, ◌+◌, Bool, nat_le, nat_lt, if◌then◌else◌}
use Rattle.std.specs.Int.{Width, w32, w64}
use Rattle.x3d_values.specs.Ranges.{max_short_number}
use Rattle.share_wire.specs.declared.form.Form.{Form}
use Rattle.share_wire.specs.declared.form.Form.TheVariants.{Short, Long}

-- the largest number of a next input, or of a floor, that has 4 bytes
abbrev pub max_short_next : ℕ
max_short_next = max_short_number + 1

-- numbers up to `most` are sent in the short form
abbrev pub form_of : (most number : ℕ) → Form
form_of most n = if nat_le n most then Short else Long

-- whether a number is sent in this form
abbrev pub has_form : Form → (most number : ℕ) → Bool
has_form Short most n = nat_le n most
has_form Long most n = nat_lt most n

-- 4 bytes, or 8
abbrev pub width_of : Form → Width
width_of Short = w32
width_of Long = w64

-- the tag of the short form, or that of the long one
abbrev pub tag_in : Form → (short long : ℕ) → ℕ
tag_in Short short long = short
tag_in Long short long = long
