use Rattle.share_runs.specs.Port.{handed_of}
use Rattle.share_runs.proofs.Porting.{due_hears, not_due_hears, hears_then}
use Rattle.share_runs.proofs.view_port.ViewPort.next.Goals as goal

pub returns-in-Some-clause-hears : goal.returns-in-Some-clause-hears
returns-in-Some-clause-hears g c =
    due_hears (λ p. p.items) c.args.self.now.run c.due.new.self (g.P.Port.told c.args.self.now.port)
    c.due.result (c.in-Some.from, c.in-Some.packet) c.in-Some.is c.due.ensures

pub returns-clause-hears : goal.returns-clause-hears
returns-clause-hears g c =
    hears_then c.args.self.now.run c.due.new.self c.receive_among.new.self.run
    (g.P.Port.told c.args.self.now.port) (g.P.Port.told c.args.self.now.port)
    (g.P.Port.told c.receive_among.new.self.port) (handed_of c.receive_among.result)
    (not_due_hears (λ p. p.items) c.args.self.now.run c.due.new.self (g.P.Port.told c.args.self.now.port)
    c.due.result c.in_default.is c.due.ensures)
    c.receive_among.ensures.hears
