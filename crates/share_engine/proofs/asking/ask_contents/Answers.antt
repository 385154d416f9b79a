use Rattle.std.proofs.Common.{None, Some, Err, ◌∙◌, ap}
use Rattle.share_etcd.specs.Keys.{text_of}
use Rattle.share_etcd.specs.Views.{contents_view}
use Rattle.share_engine.specs.declared.engine.EngineFault.{EngineFault}
use Rattle.share_engine.proofs.Lasting.{kept_grown, read_if}
use Rattle.share_engine.proofs.asking.ask_contents.Goals as goal

pub returns-in-Ok-clause-stays : goal.returns-in-Ok-clause-stays
returns-in-Ok-clause-stays g c = λ run start known kept.
    kept_grown (text_of c.args.name.now) run start (g.E.Engine.told c.args.engine.now) (g.E.Engine.told c.ask.new.self) (record { asked = c.args.body.now; answer = Some c.ask.new.into.items }) known
    c.in-Ok.ensures.ok kept

pub returns-in-Ok-clause-read : goal.returns-in-Ok-clause-read
returns-in-Ok-clause-read g c =
    read_if contents_view (text_of c.args.name.now) c.args.first (g.E.Engine.told c.args.engine.now) (g.E.Engine.told c.ask.new.self) c.args.body.now c.ask.new.into.items c.deref.result.now c.contents_in.result
    c.requires c.in-Ok.ensures.ok c.deref.ensures.value c.contents_in.ensures.found

pub returns-in-Err-Silent-clause-stays : goal.returns-in-Err-Silent-clause-stays
returns-in-Err-Silent-clause-stays g c = λ run start known kept.
    kept_grown (text_of c.args.name.now) run start (g.E.Engine.told c.args.engine.now) (g.E.Engine.told c.ask.new.self) (record { asked = c.args.body.now; answer = None }) known
    (c.ask.ensures.silent (c.in-Err-Silent.is ∙ ap (λ (e : EngineFault). Err e) c.in-Err-Silent.field-0-is)) kept
