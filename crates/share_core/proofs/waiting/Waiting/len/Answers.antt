use Rattle.std.proofs.Common.{ap, sym, ◌∙◌, length}
use Rattle.share_core.specs.Waiting.{Offers}
use Rattle.share_core.proofs.Queues.{length-shown}
use Rattle.share_core.proofs.waiting.Waiting.len.Goals as goal

pub returns-clause-value : goal.returns-clause-value
returns-clause-value c =
    let i = c.self.inside in
    sym (length-shown i.covered i.made i.places c.self.invariant.1 c.self.invariant.2 c.self.invariant.3)
    ∙ ap (λ (o : Offers). length o.waiting) c.self.view_is
