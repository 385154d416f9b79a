use Rattle.std.proofs.Common.{◌∙◌, Err, ap, sym}
use Rattle.proto_nodes.specs.Giving.{is_type}
use Rattle.proto_nodes.proofs.Standing.{value-refused, value-stands, value-twice}
use Rattle.proto_nodes.proofs.values.check_value.Goals as goal

pub returns-then-not-admits : goal.returns-then-not-admits
returns-then-not-admits c =
    λ at o items rest s is. value-refused c.args.place.line c.args.place.name.now c.args.place.field c.args.twice at o items rest c.args.inside.now s (is_type c.args.inside.now.owner) is (sym c.admits.ensures ∙ c.if-not-admits.true)
    ∙ ap (λ f. Err f) (sym c.on_line.ensures)

pub returns-then-twice : goal.returns-then-twice
returns-then-twice c =
    λ at o items rest s is. value-twice c.args.place.line c.args.place.name.now c.args.place.field c.args.twice at o items rest c.args.inside.now s (is_type c.args.inside.now.owner) is (sym c.admits.ensures ∙ c.if-not-admits.false) c.if-twice.true
    ∙ ap (λ f. Err f) (sym c.on_line-then-twice.ensures)

pub returns : goal.returns
returns c = (
  c.if-twice.false,
  λ at o items rest s is. value-stands c.args.place.line c.args.place.name.now c.args.place.field c.args.twice at o items rest c.args.inside.now s (is_type c.args.inside.now.owner) is (sym c.admits.ensures ∙ c.if-not-admits.false) c.if-twice.false,
)
