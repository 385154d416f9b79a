use Rattle.std.proofs.Common.{◌≡◌, ◌++◌, map, reverse, take}
use Rattle.scene_core.specs.declared.numbering.NumberTask.TheVariants.{Visit}
use Rattle.scene_core.proofs.numbering.push_visits.Given as goal

-- the nodes that are left come on top of the tasks that are there
abbrev pub invariant-loop-i : goal.invariant-loop-i
invariant-loop-i l = l.tasks.items ++ map Visit (reverse (take l.i l.nodes)) ≡ l.fn.tasks.items ++ map Visit (reverse l.nodes)
