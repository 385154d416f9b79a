use Rattle.share_etcd.specs.Keys.{text_of}
use Rattle.share_etcd.specs.Views.{opening_view}
use Rattle.share_engine.proofs.Lasting.{opened_if}
use Rattle.share_engine.proofs.asking.ask_opening.Goals as goal

pub returns-in-Ok : goal.returns-in-Ok
returns-in-Ok g c =
    opened_if opening_view (text_of c.args.name.now) (g.E.Engine.told c.args.engine.now) (g.E.Engine.told c.ask.new.self) c.args.body.now c.ask.new.into.items c.deref.result.now c.opening_in.result
    c.requires c.in-Ok.ensures.ok c.deref.ensures.value c.opening_in.ensures.found
