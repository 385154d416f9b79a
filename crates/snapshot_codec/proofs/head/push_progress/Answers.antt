use Rattle.std.proofs.Common.{arith}
use Rattle.std.proofs.lemmas.Grind.{common_steps}
use Rattle.byte_codec.specs.Codec.{number_text}
use Rattle.snapshot_codec.specs.Head.{progress_codec}
use Rattle.snapshot_codec.specs.Inputs.{input_codec}
use Rattle.snapshot_codec.proofs.head.push_progress.Goals as goal

pub returns-in-Short-clause-ok : goal.returns-in-Short-clause-ok
unfolding progress_codec input_codec number_text
returns-in-Short-clause-ok c = grind (arith, common_steps)

pub returns-in-Long-clause-ok : goal.returns-in-Long-clause-ok
unfolding progress_codec input_codec number_text
returns-in-Long-clause-ok c = grind (arith, common_steps)
