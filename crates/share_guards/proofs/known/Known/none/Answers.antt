use Rattle.std.proofs.Common.{rules}
use Rattle.share_guards.proofs.Unknown.{unknown}
use Rattle.share_guards.proofs.known.Known.none.Goals as goal

pub returns-clause-unknown : goal.returns-clause-unknown
returns-clause-unknown c = unknown c.args.peers c.in_ok-places.places.items (c.in_ok-places.ensures.items_if_clones_equal (search rules))
