use Rattle.std.proofs.Common.{◌≡◌, ◌++◌, take}
use Rattle.std.specs.List.{flat_map}
use Rattle.classic_tree.specs.Writing.{component_line}
use Rattle.classic_tree.proofs.header.push_components.Given as goal

abbrev pub invariant-loop-component : goal.invariant-loop-component
invariant-loop-component l = l.out.items ≡ l.fn.out.items ++ flat_map component_line (take l.component-index l.components)
