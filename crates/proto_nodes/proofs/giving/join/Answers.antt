use Rattle.std.proofs.Common.{◌≡◌, ◌++◌, ◌∷◌, [], ◌∙◌, Err, ap, rules, sym}
use Rattle.std.specs.Prelude.{option_map}
use Rattle.std.specs.Option.{option_map_or}
use Rattle.proto_meaning.specs.Flat as flat
use Rattle.proto_meaning.specs.Flat.{met_field}
use Rattle.proto_meaning.specs.Limits.{item_count}
use Rattle.proto_meaning.specs.Names.{value_of}
use Rattle.proto_parts.specs.Inside.{filled_in}
use Rattle.proto_parts.specs.Fields.{numbered}
use Rattle.proto_parts.specs.Settled.{doing}
use Rattle.proto_parts.specs.Scope as scope
use Rattle.proto_nodes.specs.Shown.{shown}
use Rattle.proto_nodes.specs.Giving.{inside_of}
use Rattle.proto_nodes.proofs.GivingGiven.{filled-inside, gives-refused, join-ends, join-kept, join-stops, met-items, any-owner}
use Rattle.proto_nodes.proofs.giving.join.Goals as goal

pub returns-in_err-meet_field : goal.returns-in_err-meet_field
returns-in_err-meet_field c =
    let vals : option_map (λ r. r.value) c.in_ok-value.value ≡ value_of c.args.outer.now (scope.shown c.args.walker.now.scope).given = c.in_ok-value.ensures ∙ c.value.ensures in
    let items : c.items_of.result ≡ option_map_or item_count (value_of c.args.outer.now (scope.shown c.args.walker.now.scope).given) 0 = c.items_of.ensures ∙ ap (λ x. option_map_or item_count x 0) vals in
    let failed : c.from_residual-in_err-meet_field.result ≡ Err c.in_err-meet_field.field-0.0 = search rules in
    λ o is. gives-refused c.args.at o (doing (flat.join c.args.place.line (numbered c.args.place.name.now c.args.place.field) (inside_of c.args.at o c.args.inside.now) c.args.outer.now (value_of c.args.outer.now (scope.shown c.args.walker.now.scope).given)) (shown c.args.walker.now))
    c.from_residual-in_err-meet_field.result c.meet_field.new.walker c.args.inside.now c.args.inside.now c.in_err-meet_field.field-0.0 failed
    (join-ends c.args.at o c.args.inside.now c.args.place.line c.args.place.name.now c.args.outer.now c.args.place.field (value_of c.args.outer.now (scope.shown c.args.walker.now.scope).given) (shown c.args.walker.now) c.in_err-meet_field.field-0.0
    (met-items o c.args.place.field.number c.items_of.result (option_map_or item_count (value_of c.args.outer.now (scope.shown c.args.walker.now.scope).given) 0) (shown c.args.walker.now) c.in_err-meet_field.field-0.0 items (c.in_err-meet_field.ensures o is)))

pub returns-in_err-join_field : goal.returns-in_err-join_field
returns-in_err-join_field c =
    let vals : option_map (λ r. r.value) c.in_ok-value.value ≡ value_of c.args.outer.now (scope.shown c.args.walker.now.scope).given = c.in_ok-value.ensures ∙ c.value.ensures in
    let items : c.items_of.result ≡ option_map_or item_count (value_of c.args.outer.now (scope.shown c.args.walker.now.scope).given) 0 = c.items_of.ensures ∙ ap (λ x. option_map_or item_count x 0) vals in
    let failed : c.from_residual-in_err-join_field.result ≡ Err c.in_err-join_field.field-0.0 = search rules in
    λ o is. gives-refused c.args.at o (doing (flat.join c.args.place.line (numbered c.args.place.name.now c.args.place.field) (inside_of c.args.at o c.args.inside.now) c.args.outer.now (value_of c.args.outer.now (scope.shown c.args.walker.now.scope).given)) (shown c.args.walker.now))
    c.from_residual-in_err-join_field.result c.join_field.new.self c.args.inside.now c.args.inside.now c.in_err-join_field.field-0.0 failed
    (join-stops c.args.at o c.args.inside.now c.args.place.line c.args.place.name.now c.args.outer.now c.args.place.field (value_of c.args.outer.now (scope.shown c.args.walker.now.scope).given) (shown c.args.walker.now) (shown c.meet_field.new.walker) c.in_err-join_field.field-0.0
    (ap (λ n. doing (met_field o c.args.place.field.number n) (shown c.args.walker.now)) (sym items) ∙ (c.in_ok-meet_field.ensures o is).0) c.in_err-join_field.ensures)

pub returns : goal.returns
returns c =
    let vals : option_map (λ r. r.value) c.in_ok-value.value ≡ value_of c.args.outer.now (scope.shown c.args.walker.now.scope).given = c.in_ok-value.ensures ∙ c.value.ensures in
    let items : c.items_of.result ≡ option_map_or item_count (value_of c.args.outer.now (scope.shown c.args.walker.now.scope).given) 0 = c.items_of.ensures ∙ ap (λ x. option_map_or item_count x 0) vals in
    λ o is. (
      join-kept c.args.at o c.args.inside.now c.fill.new.self c.args.place.line c.args.place.name.now c.args.outer.now c.args.place.field (value_of c.args.outer.now (scope.shown c.args.walker.now.scope).given) (shown c.args.walker.now) (shown c.meet_field.new.walker) (shown c.join_field.new.self)
          (ap (λ n. doing (met_field o c.args.place.field.number n) (shown c.args.walker.now)) (sym items) ∙ (c.in_ok-meet_field.ensures o is).0) c.in_ok-join_field.ensures.0
          (filled-inside c.args.at o c.args.inside.now c.fill.new.self c.args.place.line c.args.place.name.now c.args.place.field (value_of c.args.outer.now (scope.shown c.args.walker.now.scope).given) c.in_ok-fill.ensures.fields
          (c.in_ok-fill.ensures.filled ∙ ap (λ x. filled_in c.args.inside.now ++ record { line = c.args.place.line; name = c.args.place.name.now; number = c.args.place.field.number; value = x } ∷ []) vals)),
      c.in_ok-join_field.ensures.1,
      c.in_ok-fill.ensures.sound,
      c.in_ok-fill.ensures.owner,
    )

pub join_field-requires : goal.join_field-requires
join_field-requires c =
    let any = any-owner c.args.inside.now.owner in
    (c.in_ok-meet_field.ensures any.0 any.1).1
