use Rattle.std.proofs.Common.{rules}
use Rattle.share_welcomes.proofs.Unheard.{unheard}
use Rattle.share_welcomes.proofs.versions.Versions.unheard.Goals as goal

pub returns-clause-none : goal.returns-clause-none
returns-clause-none c = unheard c.args.peers c.in_ok-twos.twos.items (c.in_ok-twos.ensures.items_if_clones_equal (search rules))
