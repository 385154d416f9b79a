use Rattle.std.proofs.Common.{ap}
use Rattle.share_keys.specs.declared.sealing.Key.{Key}
use Rattle.share_sealed.proofs.Porting.{viewer_got}
use Rattle.share_sealed.proofs.own.SealedPortPort.receive.Goals as goal

pub returns-clause-got : goal.returns-clause-got
returns-clause-got g c =
    viewer_got c.args.self.now.key.bytes c.receive_next.new.self.key.bytes c.args.self.now.wrongs c.receive_next.new.self.wrongs (g.P.Port.told c.args.self.now.port) (g.P.Port.told c.receive_next.new.self.port)
    c.receive_next.new.into c.receive_next.result (ap (λ (k : Key). k.bytes) c.receive_next.ensures.key) c.receive_next.ensures.most c.receive_next.ensures.passes
