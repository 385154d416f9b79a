use Rattle.std.proofs.Common.{◌∙◌, Err, ap, sym}
use Rattle.proto_nodes.specs.Shown.{shown}
use Rattle.proto_nodes.proofs.GivingGiven.{is-joined, is-other, is-twice, is-unknown}
use Rattle.proto_nodes.proofs.giving.check_is.Goals as goal

pub returns-in_default : goal.returns-in_default
returns-in_default c =
    λ at o. is-unknown c.args.place.line c.args.place.name.now c.args.outer.now c.args.place.field c.args.twice at o c.args.inside.now (shown c.args.walker.now) c.in_default.ensures
    ∙ ap (λ f. Err f) (sym c.on_line.ensures)

pub returns-then-not-fits : goal.returns-then-not-fits
returns-then-not-fits c =
    λ at o. is-other c.args.place.line c.args.place.name.now c.args.outer.now c.args.place.field c.args.twice at o c.args.inside.now (shown c.args.walker.now) c.in-Some.known c.in-Some.ensures
    (sym (c.fits.ensures c.args.outer.now c.args.place.name.now) ∙ c.if-not-fits.true)
    ∙ ap (λ f. Err f) (sym c.on_line-then-not-fits.ensures)

pub returns-then-twice : goal.returns-then-twice
returns-then-twice c =
    λ at o. is-twice c.args.place.line c.args.place.name.now c.args.outer.now c.args.place.field c.args.twice at o c.args.inside.now (shown c.args.walker.now) c.in-Some.known c.in-Some.ensures
    (sym (c.fits.ensures c.args.outer.now c.args.place.name.now) ∙ c.if-not-fits.false) c.if-twice.true
    ∙ ap (λ f. Err f) (sym c.on_line-then-twice.ensures)

pub returns : goal.returns
returns c = (
  c.if-twice.false,
  λ at o. is-joined c.args.place.line c.args.place.name.now c.args.outer.now c.args.place.field c.args.twice at o c.args.inside.now (shown c.args.walker.now) c.in-Some.known c.in-Some.ensures
      (sym (c.fits.ensures c.args.outer.now c.args.place.name.now) ∙ c.if-not-fits.false) c.if-twice.false,
)
