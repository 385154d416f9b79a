use Rattle.share_sealed.proofs.Porting.{host_got}
use Rattle.share_sealed.proofs.keyed.KeyedPortPort.receive.Goals as goal

pub returns-clause-got : goal.returns-clause-got
returns-clause-got g c =
    host_got c.args.self.now.keys c.receive_next.new.self.keys c.args.self.now.wrongs c.receive_next.new.self.wrongs (g.P.Port.told c.args.self.now.port) (g.P.Port.told c.receive_next.new.self.port)
    c.receive_next.new.into c.args.self.now.speakers c.receive_next.new.self.speakers c.receive_next.result c.receive_next.ensures.keys c.receive_next.ensures.most c.receive_next.ensures.passes
