use Rattle.std.proofs.Common.{◌≡◌, ◌++◌, List, ℕ, Bor, map}
use Rattle.std.specs.List.{filter_map}
use Rattle.std.specs.Vec.Iter.{into_iter_items}
use Rattle.proto_parts.specs.Given as given
use Rattle.proto_parts.specs.declared.given.GivenField.{GivenField}
use Rattle.proto_parts.specs.Closing.{flat_field, flat_fields}
use Rattle.proto_parts.proofs.closing.flat_fields.Given as goal

abbrev pub invariant-loop-pair : goal.invariant-loop-pair
invariant-loop-pair l =
    flat_fields (given.shown l.fn.values) ≡ l.fields ++ filter_map flat_field (map (λ (e : Bor (List ℕ) × GivenField). e.1) (into_iter_items l.pair-iterator))
