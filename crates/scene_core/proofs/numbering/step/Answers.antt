use Rattle.std.proofs.Common.{ap}
use Rattle.scene_core.specs.declared.numbering.Numbering.{Numbering}
use Rattle.scene_core.proofs.TaskLemmas.{close-fewer}
use Rattle.scene_core.proofs.numbering.step.Goals as goal

pub returns-in_ok-close-in-Close-clause-fewer : goal.returns-in_ok-close-in-Close-clause-fewer
returns-in_ok-close-in-Close-clause-fewer c =
    close-fewer c.args.nodes.now c.args.state.now c.close.new.self c.args.tasks.now.items (ap (λ (s : Numbering). s.opened) c.in_ok-close-in-Close.ensures)
