use Rattle.std.proofs.Common.{sym}
use Rattle.scene_core.proofs.Fuel.{past-old}
use Rattle.scene_core.proofs.numbering.Numbering.is_new.Goals as goal

pub returns-in-None : goal.returns-in-None
returns-in-None c = sym (past-old c.args.self.now.opened c.args.node c.in-None.ensures)
