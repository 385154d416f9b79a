use Rattle.std.proofs.Common.{rules, ◌∙◌, ap}
use Rattle.share_welcomes.specs.Learned.{LearnedView, dropped_below}
use Rattle.share_welcomes.proofs.Links.{dropped_is, stay_of}
use Rattle.share_welcomes.proofs.learned.Learned.drop_below.Goals as goal

pub invariant_of-self-2 : goal.invariant_of-self-2
invariant_of-self-2 c =
    let old = c.self.inside in
    let left = c.in_ok-left.left.items in
    let gone = c.gone_below-gone.result in
    stay_of old.before old.links.items left c.deref.result.now old.next gone c.first_chain-self-inside.result c.self.invariant.0 c.self.invariant.1 (search rules) (search rules)
    c.first_chain-self-inside.ensures

pub returns-clause-ok : goal.returns-clause-ok
returns-clause-ok c =
    let old = c.self.inside in
    let left = c.in_ok-left.left.items in
    let gone = c.gone_below-gone.result in
    dropped_is old.before old.links.items left c.deref.result.now old.next gone c.first_chain-self-inside.result c.self.invariant.0 c.self.invariant.1 (search rules) (search rules)
    c.first_chain-self-inside.ensures old.run old.dropped old.boots c.args.floor c.len.result (search rules) (search rules) (search rules)
    ∙ ap (λ (v : LearnedView). dropped_below c.args.floor v) c.self.view_is
