use Rattle.std.proofs.Common.{refl, length, ◌/◌}
use Rattle.react_core.proofs.PartLemmas.{group_within}
use Rattle.react_core.proofs.interpolation.vectors_between.Goals as goal

pub group-from-requires : goal.group-from-requires
group-from-requires c =
    group_within c.in-Some.place.from (length c.args.keys.now) (length c.args.values.now / length c.args.keys.now) (length c.args.values.now) refl c.in-Some.ensures.from_within

pub group-to-requires : goal.group-to-requires
group-to-requires c =
    group_within c.in-Some.place.to (length c.args.keys.now) (length c.args.values.now / length c.args.keys.now) (length c.args.values.now) refl c.in-Some.ensures.to_within
