use Rattle.std.proofs.Common.{◌≡◌, take}
use Rattle.x3d_values.specs.Ranges.{max_depth}
use Rattle.scene_text.specs.Statements.{root_tree}
use Rattle.scene_text.specs.Tree.{each, node_tree}
use Rattle.scene_text.specs.Views.{plan_of}
use Rattle.scene_text.proofs.statements.roots_of.Given as goal

abbrev pub invariant-loop-root : goal.invariant-loop-root
invariant-loop-root l =
    record { seen = l.seen.items; made = l.roots.items }
    ≡ each (root_tree (node_tree max_depth (plan_of l.plan))) l.initial.seen.items
    (take l.root-index (plan_of l.plan).scene.roots)
