use Rattle.x3d_values.proofs.Joined.{next, appended, grows}
use Rattle.classic_tree.specs.Writing.{meta_line}
use Rattle.classic_tree.proofs.header.push_metas.Goals as goal

pub loop-meta-preserved : goal.loop-meta-preserved
loop-meta-preserved c =
    next meta_line c.args.metas.now c.meta-item.result c.meta-item.result c.loop-meta.meta-index
    c.args.out.now.items c.loop-meta.out.items c.push_meta.new.out.items
    c.loop-meta-test.true c.meta-item.is c.loop-meta.invariant c.in_ok-push_meta.ensures.ok

pub returns-clause-kept : goal.returns-clause-kept
returns-clause-kept c = appended _ c.loop-meta.invariant

pub returns-in_err-push_meta-clause-kept : goal.returns-in_err-push_meta-clause-kept
returns-in_err-push_meta-clause-kept c = grows _ c.loop-meta.invariant c.in_err-push_meta.ensures.kept
