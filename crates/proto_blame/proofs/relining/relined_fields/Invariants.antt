use Rattle.std.proofs.Common.{◌≡◌}
use Rattle.std.specs.List.{fold}
use Rattle.std.specs.Vec.Iter.{into_iter_items}
use Rattle.proto_blame.specs.Relined.{with_next, relined_field, side_by_side}
use Rattle.proto_blame.proofs.relining.relined_fields.Given as goal

abbrev pub invariant-loop-field : goal.invariant-loop-field
invariant-loop-field l =
    side_by_side (relined_field l.nodes) l.blamed l.fn.fields
    ≡ fold (with_next (relined_field l.nodes) l.blamed) l.made (into_iter_items l.field-iterator)
