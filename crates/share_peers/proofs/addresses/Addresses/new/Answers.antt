use Rattle.std.proofs.Common.{rules}
use Rattle.share_peers.proofs.Tables.{none_at, none_distinct, none_kept}
use Rattle.share_peers.proofs.addresses.Addresses.new.Goals as goal

pub invariant_of-result : goal.invariant_of-result
invariant_of-result c =
    let none = c.in_ok-places.ensures.items_if_clones_equal (search rules) in
    (search rules, search rules, search rules, search rules, none_distinct c.args.count c.in_ok-places.places.items none)

pub returns-clause-none : goal.returns-clause-none
returns-clause-none c =
    none_at c.args.count c.in_ok-places.places.items (c.in_ok-places.ensures.items_if_clones_equal (search rules))

pub returns-clause-free : goal.returns-clause-free
returns-clause-free c =
    none_kept c.args.most c.args.count c.in_ok-kept.kept.items (c.in_ok-kept.ensures.items_if_clones_equal (search rules))
