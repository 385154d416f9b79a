use Rattle.std.proofs.Common.{◌≡◌, ◌∙◌, Err, inr, rules}
use Rattle.proto_parts.specs.Fields.{numbered}
use Rattle.proto_parts.specs.Settled.{doing}
use Rattle.proto_nodes.specs.Shown.{shown}
use Rattle.proto_meaning.specs.trees.Values.{value_at}
use Rattle.proto_nodes.specs.Giving.{aside, inside_of}
use Rattle.proto_nodes.proofs.GivingGiven.{gives-refused}
use Rattle.proto_nodes.proofs.Standing.{aside-put, aside-wrong}
use Rattle.proto_nodes.proofs.values.put_aside.Goals as goal

pub returns-in_err-meet_value : goal.returns-in_err-meet_value
returns-in_err-meet_value c =
    let failed : c.from_residual.result ≡ Err c.in_err-meet_value.field-0.0 = search rules in
    λ at o is. gives-refused at o
    (doing (value_at c.args.place.line (numbered c.args.place.name.now c.args.place.field) c.args.twice 0 (inside_of at o c.args.inside.now)
    (aside c.args.place.line (numbered c.args.place.name.now c.args.place.field) (inside_of at o c.args.inside.now) c.args.wrong)) (shown c.args.walker.now))
    c.from_residual.result c.meet_value.new.walker c.args.inside.now c.args.inside.now c.in_err-meet_value.field-0.0 failed
    (c.in_err-meet_value.ensures at o (aside c.args.place.line (numbered c.args.place.name.now c.args.place.field) (inside_of at o c.args.inside.now) c.args.wrong) is)

pub returns-in-Some : goal.returns-in-Some
returns-in-Some c =
    λ at o is. inr (
    c.in_ok-meet_value.ensures.2 at o (aside c.args.place.line (numbered c.args.place.name.now c.args.place.field) (inside_of at o c.args.inside.now) c.args.wrong) is
    ∙ aside-wrong c.args.place.line (numbered c.args.place.name.now c.args.place.field) (inside_of at o c.args.inside.now) (shown c.meet_value.new.walker) c.args.wrong c.in-Some.fault c.in-Some.is)

pub returns : goal.returns
returns c =
    λ at o is. (
      c.in_ok-meet_value.ensures.2 at o (aside c.args.place.line (numbered c.args.place.name.now c.args.place.field) (inside_of at o c.args.inside.now) c.args.wrong) is
          ∙ aside-put c.args.place.line (numbered c.args.place.name.now c.args.place.field) (inside_of at o c.args.inside.now) (inside_of at o c.keep_none.new.inside) (shown c.meet_value.new.walker) c.args.wrong c.in_default.is
          (c.in_ok-keep_none.ensures.filled at o),
      c.in_ok-meet_value.ensures.1,
      c.in_ok-keep_none.ensures.sound,
      c.in_ok-keep_none.ensures.owner,
    )
