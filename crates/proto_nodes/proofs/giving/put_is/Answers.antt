use Rattle.std.proofs.Common.{◌≡◌, Err, inr, rules}
use Rattle.classic_tree.specs.declared.tree.Given.TheVariants as text
use Rattle.proto_meaning.specs.Flat as flat
use Rattle.proto_meaning.specs.Names.{value_of}
use Rattle.proto_parts.specs.Fields.{numbered}
use Rattle.proto_parts.specs.Settled.{doing}
use Rattle.proto_parts.specs.Scope as scope
use Rattle.proto_nodes.specs.Shown.{shown}
use Rattle.proto_nodes.specs.Giving.{inside_of}
use Rattle.proto_nodes.proofs.GivingGiven.{gives-refused, gives-same}
use Rattle.proto_nodes.proofs.giving.put_is.Goals as goal

pub returns-in_err-check_is : goal.returns-in_err-check_is
returns-in_err-check_is c =
    let failed : c.from_residual.result ≡ Err c.in_err-check_is.field-0.0 = search rules in
    λ o is. gives-refused c.args.at o
    (doing (flat.give c.args.place.line (numbered c.args.place.name.now c.args.place.field) c.args.twice (text.Is c.args.outer.now) (inside_of c.args.at o c.args.inside.now)) (shown c.args.walker.now))
    c.from_residual.result c.args.walker.now c.args.inside.now c.args.inside.now c.in_err-check_is.field-0.0 failed (inr (c.in_err-check_is.ensures c.args.at o))

pub returns : goal.returns
returns c =
    λ o is. gives-same c.args.at o
    (doing (flat.give c.args.place.line (numbered c.args.place.name.now c.args.place.field) c.args.twice (text.Is c.args.outer.now) (inside_of c.args.at o c.args.inside.now)) (shown c.args.walker.now))
    (doing (flat.join c.args.place.line (numbered c.args.place.name.now c.args.place.field) (inside_of c.args.at o c.args.inside.now) c.args.outer.now (value_of c.args.outer.now (scope.shown c.args.walker.now.scope).given)) (shown c.args.walker.now))
    c.join.result c.join.new.walker c.args.inside.now c.join.new.inside (c.in_ok-check_is.ensures.1 c.args.at o) (c.join.ensures o is)
