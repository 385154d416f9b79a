use Rattle.std.proofs.Common.{subst}
use Rattle.share_wire.specs.declared.message.Body.TheVariants.{Input}
use Rattle.share_law.specs.Calls.{IsTake}
use Rattle.share_core.specs.Viewer.{ViewerView, machine_of, view_of}
use Rattle.share_core.specs.Waiting.{with_offers}
use Rattle.share_core.proofs.viewer.Viewer.take_input.Goals as goal

pub returns-clause-step : goal.returns-clause-step
returns-clause-step g c =
    let new = with_offers c.self.inside.offers (view_of c.take_input.new.stage.held c.take_input.new.window) in
    subst (λ (v : ViewerView). IsTake (machine_of v) v.who v.state (Input c.args.input) c.take_input.result new) c.self.view_is (c.take_input.ensures.step c.args.self.now.mark c.self.inside.offers)
