use Rattle.std.proofs.Common.{sym, ◌∙◌}
use Rattle.embed_world.proofs.AllLines.{forgets_none}
use Rattle.embed_world.proofs.viewer.EmbeddedViewer.forget_below.Goals as goal

pub returns-then-below-eq0 : goal.returns-then-below-eq0
returns-then-below-eq0 c =
    forgets_none c.args.self.now c.args.below c.if-below-eq0.true (sym c.spoiled.ensures ∙ c.if-spoiled.false)
