use Rattle.share_keys.specs.declared.sealing.Direction.TheVariants.{FromHost}
use Rattle.share_sealed.proofs.Porting.{host_sent}
use Rattle.share_sealed.proofs.keyed.KeyedPortPort.send.Goals as goal

pub returns-clause-ok : goal.returns-clause-ok
returns-clause-ok g c =
    host_sent c.args.self.now.keys c.send_sealed.new.self.keys c.args.self.now.wrongs c.send_sealed.new.self.wrongs (g.P.Port.told c.args.self.now.port) (g.P.Port.told c.send_sealed.new.self.port)
    c.args.to c.in-Some.key.bytes FromHost c.args.bytes.now c.send_sealed.result c.send_sealed.ensures.keys c.send_sealed.ensures.wrongs c.send_sealed.ensures.ok
