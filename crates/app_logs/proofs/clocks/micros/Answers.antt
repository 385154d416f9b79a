use Rattle.std.proofs.Common.{◌*◌, w64, arith}
use Rattle.std.proofs.lemmas.Int.{to_z_pos}
use Rattle.app_logs.proofs.clocks.micros.Goals as goal

pub returns : goal.returns
returns c = to_z_pos w64 (1000 * c.args.millis) (omega (arith, c.requires))
