use Rattle.std.proofs.Common.{◌≡◌, ◌++◌, take}
use Rattle.std.specs.List.{flat_map}
use Rattle.scene_faults.specs.Fields.{field_blames}
use Rattle.scene_faults.proofs.nodes.push_fields.Given as goal

abbrev pub invariant-loop-field : goal.invariant-loop-field
invariant-loop-field l = l.out ≡ l.fn.out ++ flat_map (field_blames l.nodes l.node) (take l.field-index l.fields)
