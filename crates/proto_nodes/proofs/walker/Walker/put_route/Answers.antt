use Rattle.std.proofs.Common.{◌≡◌, Ok, Err, rules}
use Rattle.proto_meaning.specs.Limits.{AnItem}
use Rattle.proto_meaning.specs.Flat.{meet, note}
use Rattle.proto_parts.specs.Scope.{with_route}
use Rattle.proto_nodes.specs.Shown.{shown}
use Rattle.proto_nodes.proofs.Stepping.{ends, goes_on, noted}
use Rattle.proto_nodes.proofs.walker.Walker.put_route.Goals as goal

pub returns-in_err-meet_item : goal.returns-in_err-meet_item
returns-in_err-meet_item c =
    let failed : c.from_residual.result ≡ Err c.in_err-meet_item.field-0.0 = search rules in
    rw failed (ends (λ (a : Unit {0}). a) (meet AnItem) (λ _. note (tt {0}) (with_route c.args.route.now)) (shown c.args.self.now) c.meet_item.new.self c.in_err-meet_item.field-0.0 c.in_err-meet_item.ensures)

pub returns : goal.returns
returns c =
    goes_on (λ (a : Unit {0}). a) (meet AnItem) (λ _. note (tt {0}) (with_route c.args.route.now)) c.args.self.now c.meet_item.new.self
    (record c.meet_item.new.self { scope = c.note_route.new.self }) tt (Ok tt) c.in_ok-meet_item.ensures.0
    (noted (tt {0}) (with_route c.args.route.now) c.meet_item.new.self c.note_route.new.self c.in_ok-note_route.ensures.shown, c.in_ok-note_route.ensures.sound)
