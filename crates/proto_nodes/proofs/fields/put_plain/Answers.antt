use Rattle.std.proofs.Common.{◌≡◌, Err, rules}
use Rattle.proto_parts.specs.Fields.{numbered}
use Rattle.proto_meaning.specs.trees.Values.{plain}
use Rattle.proto_meaning.specs.trees.Meaning.{holds}
use Rattle.proto_nodes.specs.Shown.{shown}
use Rattle.proto_nodes.specs.Does.{inside_now}
use Rattle.proto_nodes.specs.Protos.{owner_by}
use Rattle.proto_nodes.proofs.Given.{is-node, plain-stands, plain-stopped}
use Rattle.proto_nodes.proofs.fields.put_plain.Goals as goal

pub returns-in_err-meet_value-clause-goes : goal.returns-in_err-meet_value-clause-goes
returns-in_err-meet_value-clause-goes c =
    let failed : c.from_residual.result ≡ Err c.in_err-meet_value.field-0.0 = search rules in
    λ ps. plain-stopped ps c.args.opened.now c.args.opened.now c.args.place c.args.twice c.args.value c.item_count.result
    (shown c.args.walker.now) c.from_residual.result c.meet_value.new.walker c.in_err-meet_value.field-0.0 c.item_count.ensures failed
    (c.in_err-meet_value.ensures c.args.opened.now.at (owner_by ps c.args.opened.now.word c.args.opened.now.inside.owner) (holds c.args.place.line (numbered c.args.place.name.now c.args.place.field) (inside_now ps c.args.opened.now) (plain c.args.value.now))
    (is-node ps c.args.opened.now.word c.args.opened.now.inside.owner))

pub returns-clause-goes : goal.returns-clause-goes
returns-clause-goes c =
    λ ps. plain-stands ps c.args.opened.now c.keep_value.new.inside c.args.place c.args.twice c.args.value c.in_ok-copy.copy c.item_count.result (shown c.args.walker.now) (shown c.meet_value.new.walker) c.item_count.ensures
    (c.in_ok-meet_value.ensures.2 c.args.opened.now.at (owner_by ps c.args.opened.now.word c.args.opened.now.inside.owner) (holds c.args.place.line (numbered c.args.place.name.now c.args.place.field) (inside_now ps c.args.opened.now) (plain c.args.value.now))
    (is-node ps c.args.opened.now.word c.args.opened.now.inside.owner))
    c.in_ok-copy.ensures (c.in_ok-keep_value.ensures.filled c.args.opened.now.at (owner_by ps c.args.opened.now.word c.args.opened.now.inside.owner)) c.in_ok-keep_value.ensures.owner

pub returns-clause-sound : goal.returns-clause-sound
returns-clause-sound c = (c.in_ok-meet_value.ensures.1, c.in_ok-keep_value.ensures.sound, tt)
