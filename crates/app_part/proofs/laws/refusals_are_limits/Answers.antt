use Rattle.app_part.proofs.Texts.{refusals_are_limits}
use Rattle.app_part.proofs.laws.refusals_are_limits.Goals as goal

pub returns : goal.returns
returns c = refusals_are_limits
