use Rattle.x3d_values.proofs.Joined.{next, appended, grows}
use Rattle.classic_tree.specs.Writing.{component_line}
use Rattle.classic_tree.proofs.header.push_components.Goals as goal

pub loop-component-preserved : goal.loop-component-preserved
loop-component-preserved c =
    next component_line c.args.components.now c.component-item.result c.component-item.result c.loop-component.component-index
    c.args.out.now.items c.loop-component.out.items c.push_component.new.out.items
    c.loop-component-test.true c.component-item.is c.loop-component.invariant c.in_ok-push_component.ensures.ok

pub returns-clause-kept : goal.returns-clause-kept
returns-clause-kept c = appended _ c.loop-component.invariant

pub returns-in_err-push_component-clause-kept : goal.returns-in_err-push_component-clause-kept
returns-in_err-push_component-clause-kept c = grows _ c.loop-component.invariant c.in_err-push_component.ensures.kept
