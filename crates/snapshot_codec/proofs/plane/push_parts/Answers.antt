use Rattle.std.proofs.Common.{arith}
use Rattle.std.proofs.lemmas.Grind.{common_steps}
use Rattle.snapshot_codec.specs.Parts.{drag_codec, plane_codec, viewer_set_codec}
use Rattle.snapshot_codec.proofs.plane.push_parts.Goals as goal

pub returns-clause-ok : goal.returns-clause-ok
unfolding plane_codec drag_codec viewer_set_codec
returns-clause-ok c = grind (arith, common_steps)
