use Rattle.std.proofs.Common.{◌≡◌, ◌∙◌, ◌++◌, ◌∷◌, [], Some, ap, rules}
use Rattle.proto_parts.specs.Inside.{filled_in}
use Rattle.proto_nodes.proofs.GivingGiven.{filled-inside}
use Rattle.proto_nodes.proofs.values.keep_value.Goals as goal

pub returns-clause-filled : goal.returns-clause-filled
returns-clause-filled c =
    let same : c.in_ok-value.value.value ≡ c.args.value = search rules in
    λ at o. filled-inside at o c.args.inside.now c.fill.new.self c.args.place.line c.args.place.name.now c.args.place.field (Some c.args.value) c.in_ok-fill.ensures.fields
    (c.in_ok-fill.ensures.filled
    ∙ ap (λ x. filled_in c.args.inside.now ++ record { line = c.args.place.line; name = c.args.place.name.now; number = c.args.place.field.number; value = Some x } ∷ []) same)
