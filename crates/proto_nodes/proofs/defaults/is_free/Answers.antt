use Rattle.std.proofs.Common.{◌∙◌, sym}
use Rattle.proto_parts.specs.Given as table
use Rattle.proto_nodes.proofs.Fillings.{given-none, given-some, is-none}
use Rattle.proto_nodes.proofs.defaults.is_free.Goals as goal

pub returns-then-is_some : goal.returns-then-is_some
returns-then-is_some c =
    given-some (λ v. v.now.value) c.value.result c.args.name.now (table.shown c.args.given.now) (table.shown c.args.defaults.now) (c.value.ensures (table.shown c.args.given.now) c.requires.given) (sym c.is_some.ensures ∙ c.if-is_some.true)

pub returns : goal.returns
returns c =
    is-none c.value-2.result c.is_none.result c.is_none.ensures ∙ given-none (λ v. v.now.value) (λ v. v.now.value) c.value.result c.value-2.result c.args.name.now (table.shown c.args.given.now) (table.shown c.args.defaults.now) (c.value.ensures (table.shown c.args.given.now) c.requires.given) (sym c.is_some.ensures ∙ c.if-is_some.false)
    (c.value-2.ensures (table.shown c.args.defaults.now) c.requires.defaults)
