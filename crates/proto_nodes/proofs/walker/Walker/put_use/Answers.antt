use Rattle.std.proofs.Common.{◌≡◌, ◌∙◌, ℕ, Ok, Err, ap, inr, rules, sym}
use Rattle.proto_meaning.specs.Limits.{AnItem}
use Rattle.proto_meaning.specs.Flat.{meet}
use Rattle.proto_nodes.specs.Shown.{shown}
use Rattle.proto_nodes.specs.Steps.{named_node}
use Rattle.proto_nodes.proofs.Stepping.{ends, goes_on, in-turn, use-found, use-none}
use Rattle.proto_nodes.proofs.walker.Walker.put_use.Goals as goal

pub returns-in_err-meet_item : goal.returns-in_err-meet_item
returns-in_err-meet_item c =
    let failed : c.from_residual.result ≡ Err c.in_err-meet_item.field-0.0 = search rules in
    rw failed (ends (λ (n : ℕ). n) (meet AnItem) (λ _. named_node c.args.line c.args.name.now) (shown c.args.self.now) c.meet_item.new.self c.in_err-meet_item.field-0.0 c.in_err-meet_item.ensures)

pub returns-in_default : goal.returns-in_default
returns-in_default c = inr (
    in-turn (meet AnItem) (λ _. named_node c.args.line c.args.name.now) (shown c.args.self.now) (shown c.meet_item.new.self) tt c.in_ok-meet_item.ensures.0
    ∙ use-none c.args.line c.args.name.now (shown c.meet_item.new.self) c.in_default.ensures
    ∙ ap (λ f. Err f) (sym c.on_line.ensures))

pub returns : goal.returns
returns c =
    goes_on (λ (n : ℕ). n) (meet AnItem) (λ _. named_node c.args.line c.args.name.now) c.args.self.now c.meet_item.new.self c.meet_item.new.self tt (Ok c.in-Some.number) c.in_ok-meet_item.ensures.0
    (use-found c.args.line c.args.name.now (shown c.meet_item.new.self) c.in-Some.number c.in-Some.ensures, c.in_ok-meet_item.ensures.1)
