use Rattle.share_runs.specs.Port.{handed_of}
use Rattle.share_runs.proofs.Porting.{dropped_then}
use Rattle.share_runs.proofs.view_port.ViewPort.+receive_among.Goals as goal

pub returns-in-Ok-Dropped-clause-hears : goal.returns-in-Ok-Dropped-clause-hears
returns-in-Ok-Dropped-clause-hears g t c =
    dropped_then c.args.self.now.run c.receive_one.new.self.run c.receive_among.new.self.run
    (g.P.Port.told c.args.self.now.port) (g.P.Port.told c.receive_one.new.self.port)
    (g.P.Port.told c.receive_among.new.self.port) c.receive_one.result c.in-Ok-Dropped.field-0 (handed_of c.receive_among.result)
    c.in-Ok-Dropped.is c.in-Ok-Dropped.field-0-is c.receive_one.ensures.hears c.receive_among.ensures.hears
