use Rattle.std.proofs.Common.{rules}
use Rattle.share_sealed.proofs.Unheard.{unheard}
use Rattle.share_sealed.proofs.speakers.Speakers.unheard.Goals as goal

pub returns-clause-unheard : goal.returns-clause-unheard
returns-clause-unheard c = unheard c.args.peers c.in_ok-whos.whos.items (c.in_ok-whos.ensures.items_if_clones_equal (search rules))
