use Rattle.std.proofs.Common.{◌≡◌, ap, ◌∙◌, rules}
use Rattle.share_law.specs.Viewer.{acked}
use Rattle.share_core.specs.Viewer.{ViewerView, machine_of, view_of}
use Rattle.share_core.specs.Waiting.{with_offers}
use Rattle.share_core.proofs.Joins.{ack_taken}
use Rattle.share_core.proofs.viewer.Viewer.take_ack.Goals as goal

pub returns-clause-step : goal.returns-clause-step
returns-clause-step g c =
    let view = view_of c.self.inside.stage.held c.self.inside.window in
    let mine : c.args.ack.who ≡ c.args.self.now.who = search rules in
    ack_taken (machine_of c.args.self.now) c.args.self.now.who c.args.self.now.state (with_offers c.heed.new.self view) c.args.ack c.requires mine
    (c.heed.ensures.step view ∙ ap (λ (v : ViewerView). acked v.state c.args.ack.boot c.args.ack.count) c.self.view_is)
