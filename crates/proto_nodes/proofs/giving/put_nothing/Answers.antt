use Rattle.std.proofs.Common.{◌∙◌, Err, false, ap, inr, sym}
use Rattle.classic_tree.specs.declared.tree.Given.TheVariants as text
use Rattle.proto_meaning.specs.Flat.{give}
use Rattle.proto_parts.specs.Fields.{numbered}
use Rattle.proto_parts.specs.Settled.{doing}
use Rattle.proto_nodes.specs.Shown.{shown}
use Rattle.proto_nodes.specs.Giving.{inside_of}
use Rattle.proto_nodes.proofs.GivingGiven.{gives-same, nothing-once, nothing-twice}
use Rattle.proto_nodes.proofs.giving.put_nothing.Goals as goal

pub returns-then-twice : goal.returns-then-twice
returns-then-twice c =
    λ at o is. inr (
    nothing-twice at o c.args.inside.now c.args.place.line c.args.place.name.now c.args.place.field c.args.twice (shown c.args.walker.now) c.if-twice.true
    ∙ ap (λ f. Err f) (sym c.on_line.ensures))

pub returns : goal.returns
returns c =
    λ at o is. gives-same at o
    (doing (give c.args.place.line (numbered c.args.place.name.now c.args.place.field) c.args.twice text.Nothing (inside_of at o c.args.inside.now)) (shown c.args.walker.now))
    (doing (give c.args.place.line (numbered c.args.place.name.now c.args.place.field) false text.Nothing (inside_of at o c.args.inside.now)) (shown c.args.walker.now))
    c.keep_nothing.result c.keep_nothing.new.walker c.args.inside.now c.keep_nothing.new.inside
    (nothing-once at o c.args.inside.now c.args.place.line c.args.place.name.now c.args.place.field c.args.twice (shown c.args.walker.now) c.if-twice.false)
    (c.keep_nothing.ensures at o is)
