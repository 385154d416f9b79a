-- What is read of a sensor is in its range.
use Rattle.std.proofs.Common.{◌≡◌, ℕ, true, List, Option, Some}
use Rattle.byte_codec.specs.Exact.{IsBytes}
use Rattle.snapshot_codec.specs.Parts.{cycle_codec, cycle_fits}
use Rattle.snapshot_codec.proofs.PartLaws.{cycle_exact}

cycle_small : (cycle : Option ℕ) → cycle_codec.fits cycle ≡ true → cycle_fits cycle ≡ true
unfolding cycle_codec
cycle_small cycle fits = fits

-- the cycle of a TimeSensor
pub cycle_read : (bytes : List ℕ) (cycle : Option ℕ) (rest : List ℕ) → IsBytes bytes → cycle_codec.read bytes ≡ Some (cycle, rest) → cycle_fits cycle ≡ true
cycle_read bytes cycle rest h e = cycle_small cycle (cycle_exact.takes bytes cycle rest h e).valid
