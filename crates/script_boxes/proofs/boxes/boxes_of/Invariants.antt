use Rattle.std.proofs.Common.{◌≡◌, map, take}
use Rattle.std.specs.List.{filter_map}
use Rattle.script_boxes.specs.Boxes.{made_for, made_of}
use Rattle.script_boxes.proofs.boxes.boxes_of.Given as goal

-- the boxes of the scripts so far
abbrev pub invariant-loop-spec : goal.invariant-loop-spec
invariant-loop-spec l = map made_of l.boxes.items ≡ filter_map made_for (take l.spec-index l.specs)
