use Rattle.std.proofs.Common.{◌≡◌, ◌++◌, ◌∙◌, List, ℕ, Bor, ap, map, rules, sym}
use Rattle.std.specs.List.{filter_map}
use Rattle.proto_parts.specs.declared.given.GivenField.{GivenField}
use Rattle.proto_parts.specs.Closing.{flat_field}
use Rattle.proto_parts.proofs.Closings.{flat-values}
use Rattle.proto_parts.proofs.closing.flat_fields.Goals as goal

pub loop-pair-init : goal.loop-pair-init
loop-pair-init c =
    let same : c.into_iter-pair-iterator.result.rest.items ≡ c.args.values.fields.items = search rules in
    flat-values (λ (k : Bor (List ℕ)). k.now) c.args.values.fields.items
    ∙ ap (λ es. filter_map flat_field (map (λ (e : Bor (List ℕ) × GivenField). e.1) es)) (sym same)
    ∙ ap (λ fs. fs ++ filter_map flat_field (map (λ (e : Bor (List ℕ) × GivenField). e.1) c.into_iter-pair-iterator.result.rest.items)) (sym c.new-fields.ensures)
