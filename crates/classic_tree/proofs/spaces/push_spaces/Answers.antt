use Rattle.x3d_values.proofs.Joined.{appended}
use Rattle.classic_tree.proofs.Grown.{one_space}
use Rattle.classic_tree.proofs.spaces.push_spaces.Goals as goal

pub loop-i-preserved : goal.loop-i-preserved
loop-i-preserved c = one_space c.loop-i._i c.args.out.now.items c.loop-i.out.items c.push.new.self.items c.loop-i.invariant c.in_ok-push.ensures.items

pub returns-clause-kept : goal.returns-clause-kept
returns-clause-kept c = appended _ c.loop-i.invariant
