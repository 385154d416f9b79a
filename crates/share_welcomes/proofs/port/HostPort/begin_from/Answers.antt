use Rattle.std.proofs.Common.{◌∙◌, ap}
use Rattle.std.proofs.lemmas.Result.{IfOk-weaker}
use Rattle.share_welcomes.specs.Learned.{LearnedView, learned_more}
use Rattle.share_welcomes.proofs.Boots.{is_of_base}
use Rattle.share_welcomes.proofs.port.HostPort.begin_from.Goals as goal

pub returns-clause-log : goal.returns-clause-log
returns-clause-log g c =
    let later = c.args.entries.now in
    IfOk-weaker c.with.result _ _
    (λ p same. is_of_base c.args.run.run later c.args.base.now p.learned (same ∙ ap (λ (l : LearnedView). learned_more l later) c.from_base-known.ensures))
    c.with.ensures.learned
