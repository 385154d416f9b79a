-- The numbers of inputs, and how many were applied, as bytes (our choice).
use Rattle.std.specs.Prelude.{ℕ, nat_le}
use Rattle.std.specs.Int.{Width, w32, w64}
use Rattle.x3d_values.specs.Ranges.{max_inputs, max_short_number}
use Rattle.byte_codec.specs.Codec.{Codec, number}
use Rattle.snapshot_codec.specs.declared.input_number.Numbers.{Numbers}
use Rattle.snapshot_codec.specs.declared.input_number.Numbers.TheVariants.{Short, Long}
use Rattle.snapshot_codec.specs.Values.{restricted}

abbrev pub number_width : Numbers → Width
number_width Short = w32
number_width Long = w64

-- the largest number of inputs of a world whose inputs have such numbers
abbrev pub most_inputs : Numbers → ℕ
most_inputs Short = max_short_number
most_inputs Long = max_inputs

unfoldable pub input_codec : Numbers → Codec ℕ
input_codec numbers = number (number_width numbers)

abbrev pub applied_codec : Numbers → Codec ℕ
applied_codec numbers = restricted (λ n. nat_le n (most_inputs numbers)) (input_codec numbers)
