use Rattle.std.proofs.Common.{None, Some, Err, ◌∙◌, ap}
use Rattle.share_engine.specs.declared.engine.EngineFault.{EngineFault}
use Rattle.share_engine.proofs.Lasting.{kept_grown}
use Rattle.share_engine.proofs.asking.ask_for.Goals as goal

pub returns-in-Ok-clause-stays : goal.returns-in-Ok-clause-stays
returns-in-Ok-clause-stays g c = λ world run start known kept.
    kept_grown world run start (g.E.Engine.told c.args.engine.now) (g.E.Engine.told c.ask.new.self) (record { asked = c.args.body.now; answer = Some c.ask.new.into.items }) known
    c.in-Ok.ensures.ok kept

pub returns-in-Err-Silent-clause-stays : goal.returns-in-Err-Silent-clause-stays
returns-in-Err-Silent-clause-stays g c = λ world run start known kept.
    kept_grown world run start (g.E.Engine.told c.args.engine.now) (g.E.Engine.told c.ask.new.self) (record { asked = c.args.body.now; answer = None }) known
    (c.ask.ensures.silent (c.in-Err-Silent.is ∙ ap (λ (e : EngineFault). Err e) c.in-Err-Silent.field-0-is)) kept
