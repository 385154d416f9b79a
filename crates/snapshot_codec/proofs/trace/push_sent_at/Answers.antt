use Rattle.std.proofs.Common.{arith}
use Rattle.std.proofs.lemmas.Grind.{common_steps}
use Rattle.snapshot_codec.specs.Inputs.{input_codec}
use Rattle.snapshot_codec.specs.Trace.{sent_at_codec}
use Rattle.snapshot_codec.proofs.trace.push_sent_at.Goals as goal

pub returns-in-Short-clause-ok : goal.returns-in-Short-clause-ok
unfolding sent_at_codec input_codec
returns-in-Short-clause-ok c = grind (arith, common_steps)

pub returns-in-Long-clause-ok : goal.returns-in-Long-clause-ok
unfolding sent_at_codec input_codec
returns-in-Long-clause-ok c = grind (arith, common_steps)
