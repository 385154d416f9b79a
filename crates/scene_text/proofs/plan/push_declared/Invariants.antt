use Rattle.std.proofs.Common.{◌≡◌, ◌+◌, ◌++◌, drop, map}
use Rattle.scene_text.specs.Tree.{declared_from}
use Rattle.scene_text.specs.Views.{plan_of, shown_of}
use Rattle.scene_text.proofs.plan.push_declared.Given as goal

-- those so far, with the rest behind them, are all
abbrev pub invariant-loop-i : goal.invariant-loop-i
invariant-loop-i l =
    map shown_of l.out.items ++ declared_from (plan_of l.plan) l.node (l.first + l.i) (drop l.i l.fields)
    ≡ map shown_of l.initial.out.items ++ declared_from (plan_of l.plan) l.node l.first l.fields
