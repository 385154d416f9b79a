use Rattle.std.proofs.Common.{◌≡◌, ◌++◌, drop}
use Rattle.scene_core.specs.Shape.{rows_of}
use Rattle.snapshot_core.specs.Nodes.{kept_from, shape_in}
use Rattle.snapshot_core.proofs.kept.list_kept.Given as goal

-- the fields so far, and those that are left
abbrev pub invariant-loop-number : goal.invariant-loop-number
invariant-loop-number l =
    l.kept.items ++ kept_from l.node_type l.number (drop l.number (rows_of (shape_in l.scene l.node)))
    ≡ kept_from l.node_type 0 (rows_of (shape_in l.scene l.node))
