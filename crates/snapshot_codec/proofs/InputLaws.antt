-- What is read of a number of an input was written so, and what is written so is read.
use Rattle.std.proofs.Common.{◌^◌, leb, arith}
use Rattle.std.specs.Int.{w32, w64}
use Rattle.std.proofs.lemmas.Bool.{lt-ltb, leb-true}
use Rattle.byte_codec.specs.Codec.{number}
use Rattle.byte_codec.specs.Exact.{IsExact}
use Rattle.byte_codec.proofs.Laws.{number_exact, wide32, wide64}
use Rattle.x3d_values.specs.Ranges.{max_inputs, max_short_number}
use Rattle.snapshot_codec.specs.declared.input_number.Numbers.{Numbers}
use Rattle.snapshot_codec.specs.declared.input_number.Numbers.TheVariants.{Short, Long}
use Rattle.snapshot_codec.specs.Inputs.{input_codec, applied_codec}
use Rattle.snapshot_codec.proofs.ValueLaws.{restricted_exact}

pub input_exact : (numbers : Numbers) → IsExact (input_codec numbers)
unfolding input_codec
input_exact Short = number_exact w32 wide32
input_exact Long = number_exact w64 wide64

pub applied_exact : (numbers : Numbers) → IsExact (applied_codec numbers)
unfolding input_codec
applied_exact Short = restricted_exact (λ n. leb n max_short_number) (number w32) (λ n ok. lt-ltb n (2 ^ 32) (omega (arith, leb-true n max_short_number ok))) (number_exact w32 wide32)
applied_exact Long = restricted_exact (λ n. leb n max_inputs) (number w64) (λ n ok. lt-ltb n (2 ^ 64) (omega (arith, leb-true n max_inputs ok))) (number_exact w64 wide64)
