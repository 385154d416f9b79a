-- The result of the tasks on a work stack. The last task is done first.
use Rattle.std.specs.Prelude.{ℕ, ◌+◌, Bool, true, false, List, [], ◌∷◌, length, reverse}
use Rattle.std.specs.List.{fold}
use Rattle.proto_flat.specs.declared.flat.FlatNode.{FlatNode}
use Rattle.scene_core.specs.declared.numbering.Numbering.{Numbering}
use Rattle.scene_core.specs.declared.numbering.NumberTask.{NumberTask}
use Rattle.scene_core.specs.declared.numbering.NumberTask.TheVariants.{Visit, Close}
use Rattle.scene_core.specs.Numbers.{visit, close}
use Rattle.scene_core.specs.Parts.{parts_of}

-- a task, by the definition of the numbers
abbrev pub do_task : List FlatNode → Numbering → NumberTask → Numbering
do_task nodes s (Visit n) = visit (length nodes + 1) nodes s n
do_task nodes s (Close n) = close s n

-- the tasks from the last to the first
unfoldable pub finish : List FlatNode → Numbering → List NumberTask → Numbering
finish nodes s tasks = fold (do_task nodes) s (reverse tasks)

-- the number of nodes that have not appeared
unfoldable pub unopened : List Bool → ℕ
unopened [] = 0
unopened (true ∷ rest) = unopened rest
unopened (false ∷ rest) = unopened rest + 1

-- the number of tasks that the nodes from that number on that have not appeared can still add
unfoldable pub to_come : List FlatNode → ℕ → List Bool → ℕ
to_come nodes n [] = 0
to_come nodes n (true ∷ rest) = to_come nodes (n + 1) rest
to_come nodes n (false ∷ rest) = to_come nodes (n + 1) rest + (length (parts_of nodes n) + 1)

-- a bound on the tasks that are still to be done
unfoldable pub work_left : List FlatNode → Numbering → List NumberTask → ℕ
work_left nodes s tasks = to_come nodes 0 s.opened + length tasks
