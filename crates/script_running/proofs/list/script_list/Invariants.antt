use Rattle.std.proofs.Common.{◌≡◌, ◌++◌, ◌-◌}
use Rattle.std.specs.List.{filter_map, range_with_len}
use Rattle.script_running.specs.Scripts.{script_at, script_list}
use Rattle.script_running.proofs.list.script_list.Given as goal

-- the scripts so far, and those that are left
abbrev pub invariant-loop-node : goal.invariant-loop-node
invariant-loop-node l =
    l.list.items ++ filter_map (script_at l.scene) (range_with_len l.node (l.count - l.node)) ≡ script_list l.scene
