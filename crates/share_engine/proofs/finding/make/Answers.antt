use Rattle.std.proofs.Common.{◌∙◌}
use Rattle.share_etcd.specs.Keys.{text_of}
use Rattle.share_engine.proofs.Openings.{made_if}
use Rattle.share_engine.proofs.finding.make.Goals as goal

pub returns-in-Ok-ask_for : goal.returns-in-Ok-ask_for
returns-in-Ok-ask_for g c =
    made_if (text_of c.args.name.now) (g.E.Engine.told c.args.engine.now) (g.E.Engine.told c.ask_for.new.engine) c.args.head.now c.deref.result.now c.in-Ok-ask_for.revision
    (c.deref.ensures.value ∙ c.in-Ok.ensures) c.in-Ok-ask_for.ensures.stored
