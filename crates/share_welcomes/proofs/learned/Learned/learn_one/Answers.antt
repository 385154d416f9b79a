use Rattle.std.proofs.Common.{rules, ◌≡◌, ◌++◌, ◌∷◌, []}
use Rattle.share_welcomes.proofs.Links.{link_of, one_more}
use Rattle.share_welcomes.proofs.learned.Learned.learn_one.Goals as goal

pub invariant_of-self-2 : goal.invariant_of-self-2
invariant_of-self-2 c =
    let old = c.self.inside in
    let pushed : c.push.new.self.items ≡ old.links.items ++ link_of old.next c.args.entry.now ∷ [] = search rules in
    one_more old.before old.links.items c.push.new.self.items old.next c.link-self-inside.result c.args.entry.now
    c.self.invariant.0 c.self.invariant.1 pushed c.link-self-inside.ensures
