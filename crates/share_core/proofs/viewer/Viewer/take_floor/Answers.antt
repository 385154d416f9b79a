use Rattle.std.proofs.Common.{ap, ◌∙◌}
use Rattle.share_law.specs.Viewer.{applied_in}
use Rattle.share_core.specs.Viewer.{ViewerView, machine_of}
use Rattle.share_core.proofs.Joins.{applied_same, floor_taken}
use Rattle.share_core.proofs.viewer.Viewer.take_floor.Goals as goal

pub returns : goal.returns
returns g c =
    floor_taken (machine_of c.args.self.now) c.args.self.now.who c.args.floor c.applied.result c.args.self.now.state c.behind.result c.requires
    (c.applied.ensures ∙ applied_same c.self.inside.mark c.self.inside.stage.scene c.self.inside.stage.routes c.self.inside.stage.held c.self.inside.window
    ∙ ap (λ (v : ViewerView). applied_in (machine_of v) v.state.view) c.self.view_is)
    c.behind.ensures
