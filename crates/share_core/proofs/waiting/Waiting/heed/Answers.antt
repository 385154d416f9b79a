use Rattle.std.proofs.Common.{ℕ, ap, ◌∙◌}
use Rattle.share_rules.specs.Acks.{covered_after}
use Rattle.share_rules.specs.declared.acks.Tally.{Tally}
use Rattle.share_law.specs.Viewer.{acked}
use Rattle.share_core.specs.Waiting.{Offers, with_offers}
use Rattle.share_core.proofs.Queues.{acks-heeded}
use Rattle.share_core.proofs.waiting.Waiting.heed.Goals as goal

pub returns-clause-step : goal.returns-clause-step
returns-clause-step c view =
    let i = c.self.inside in
    let tally : Tally = record { boot = i.boot; made = i.made; covered = i.covered } in
    acks-heeded i.who i.boot i.covered i.made i.places c.self.invariant.1 c.self.invariant.2 c.self.invariant.3 view c.args.ack.boot c.args.ack.count c.covered_after-self-inside.result
    (c.covered_after-self-inside.ensures
    ∙ ap (λ (b : ℕ). covered_after tally b c.count.result) c.boot.ensures
    ∙ ap (λ (n : ℕ). covered_after tally c.args.ack.boot n) c.count.ensures)
    ∙ ap (λ (q : Offers). acked (with_offers q view) c.args.ack.boot c.args.ack.count) c.self.view_is
