use Rattle.std.proofs.Common.{ap, take, ◌∙◌}
use Rattle.share_core.proofs.Fresh.{fresh}
use Rattle.share_pending.proofs.kept.none_kept.Goals as goal

pub returns : goal.returns
returns c =
    c.truncate.ensures.items ∙ ap (take c.args.viewers) c.from_array_in-kept.ensures.items
    ∙ fresh c.default.result c.args.viewers c.requires c.default.ensures.0 c.default.ensures.1
