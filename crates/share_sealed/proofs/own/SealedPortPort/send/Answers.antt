use Rattle.std.proofs.Common.{ap}
use Rattle.share_keys.specs.declared.sealing.Direction.TheVariants.{ToHost}
use Rattle.share_keys.specs.declared.sealing.Key.{Key}
use Rattle.share_sealed.proofs.Porting.{viewer_sent}
use Rattle.share_sealed.proofs.own.SealedPortPort.send.Goals as goal

pub returns-clause-ok : goal.returns-clause-ok
returns-clause-ok g c =
    viewer_sent c.args.self.now.key.bytes c.send_sealed.new.self.key.bytes c.args.self.now.wrongs c.send_sealed.new.self.wrongs (g.P.Port.told c.args.self.now.port) (g.P.Port.told c.send_sealed.new.self.port)
    c.args.to c.args.self.now.key.bytes ToHost c.args.bytes.now c.send_sealed.result (ap (λ (k : Key). k.bytes) c.send_sealed.ensures.key) c.send_sealed.ensures.wrongs c.send_sealed.ensures.ok
