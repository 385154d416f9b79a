use Rattle.share_sealed.specs.Passing.{handed_in}
use Rattle.share_sealed.proofs.Porting.{host_then}
use Rattle.share_sealed.proofs.keyed.KeyedPort.+receive_next.Goals as goal

pub returns-in-Ok-Wrong-clause-passes : goal.returns-in-Ok-Wrong-clause-passes
returns-in-Ok-Wrong-clause-passes g t c =
    host_then c.args.self.now.keys c.receive_one.new.self.keys c.args.self.now.wrongs c.receive_one.new.self.wrongs c.receive_next.new.self.wrongs
    (g.P.Port.told c.args.self.now.port) (g.P.Port.told c.receive_one.new.self.port) (g.P.Port.told c.receive_next.new.self.port)
    c.receive_one.new.into c.receive_one.result c.in-Ok-Wrong.field-0 (handed_in c.receive_next.new.into c.receive_next.result)
    c.args.self.now.speakers c.receive_one.new.self.speakers c.receive_next.new.self.speakers
    c.receive_one.ensures.keys c.in-Ok-Wrong.is c.in-Ok-Wrong.field-0-is c.receive_one.ensures.passes c.receive_next.ensures.passes
