use Rattle.std.proofs.Common.{◌∙◌, ◌++◌, ap, take_all}
use Rattle.std.specs.List.{flat_map}
use Rattle.embed_changes.proofs.Listed.{listed_next}
use Rattle.embed_changes.proofs.numbers.push_all.Goals as goal

pub loop-item-preserved : goal.loop-item-preserved
loop-item-preserved g c =
    listed_next g.T.Numbers.numbers c.args.out.now.items c.args.items.now c.loop-item.item-index c.item-item.result c.loop-item.out.items _
    c.loop-item-test.true c.item-item.is c.loop-item.invariant c.in_ok-push_to.ensures

pub returns : goal.returns
returns g c =
    c.loop-item.invariant ∙ ap (λ ys. c.args.out.now.items ++ flat_map g.T.Numbers.numbers ys) (take_all c.loop-item.item-index c.args.items.now c.loop-item-test.false)
