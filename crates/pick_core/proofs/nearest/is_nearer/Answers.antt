use Rattle.std.proofs.Common.{◌∙◌, ap}
use Rattle.pick_core.specs.Passed.{is_before}
use Rattle.pick_core.proofs.Passing.{before-nearer}
use Rattle.pick_core.proofs.nearest.is_nearer.Goals as goal

pub returns : goal.returns
returns c = c.is_before.ensures ∙ (ap (is_before c.args.at) c.fraction_of.ensures ∙ before-nearer c.args.at c.args.best.now)
