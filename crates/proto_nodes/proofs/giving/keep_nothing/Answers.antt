use Rattle.std.proofs.Common.{◌≡◌, None, Err, false, rules}
use Rattle.classic_tree.specs.declared.tree.Given.TheVariants as text
use Rattle.proto_meaning.specs.Flat.{give}
use Rattle.proto_parts.specs.Fields.{numbered}
use Rattle.proto_parts.specs.Settled.{doing}
use Rattle.proto_nodes.specs.Shown.{shown}
use Rattle.proto_nodes.specs.Giving.{inside_of}
use Rattle.proto_nodes.proofs.GivingGiven.{filled-inside, gives-refused, nothing-ends, nothing-kept}
use Rattle.proto_nodes.proofs.giving.keep_nothing.Goals as goal

pub returns-in_err-meet_field : goal.returns-in_err-meet_field
returns-in_err-meet_field c =
    let failed : c.from_residual.result ≡ Err c.in_err-meet_field.field-0.0 = search rules in
    λ at o is. gives-refused at o (doing (give c.args.place.line (numbered c.args.place.name.now c.args.place.field) false text.Nothing (inside_of at o c.args.inside.now)) (shown c.args.walker.now))
    c.from_residual.result c.meet_field.new.walker c.args.inside.now c.args.inside.now c.in_err-meet_field.field-0.0 failed
    (nothing-ends at o c.args.inside.now c.args.place.line c.args.place.name.now c.args.place.field (shown c.args.walker.now) c.in_err-meet_field.field-0.0 (c.in_err-meet_field.ensures o is))

pub returns : goal.returns
returns c =
    λ at o is. (
      nothing-kept at o c.args.inside.now c.fill.new.self c.args.place.line c.args.place.name.now c.args.place.field (shown c.args.walker.now) (shown c.meet_field.new.walker) (c.in_ok-meet_field.ensures o is).0
          (filled-inside at o c.args.inside.now c.fill.new.self c.args.place.line c.args.place.name.now c.args.place.field None c.in_ok-fill.ensures.fields c.in_ok-fill.ensures.filled),
      (c.in_ok-meet_field.ensures o is).1,
      c.in_ok-fill.ensures.sound,
      c.in_ok-fill.ensures.owner,
    )
