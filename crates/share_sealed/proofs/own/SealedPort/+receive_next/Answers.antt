use Rattle.std.proofs.Common.{ap}
use Rattle.share_keys.specs.declared.sealing.Key.{Key}
use Rattle.share_sealed.specs.Passing.{handed_in}
use Rattle.share_sealed.proofs.Porting.{viewer_then}
use Rattle.share_sealed.proofs.own.SealedPort.+receive_next.Goals as goal

pub returns-in-Ok-Wrong-clause-passes : goal.returns-in-Ok-Wrong-clause-passes
returns-in-Ok-Wrong-clause-passes g t c =
    viewer_then c.args.self.now.key.bytes c.receive_one.new.self.key.bytes c.args.self.now.wrongs c.receive_one.new.self.wrongs c.receive_next.new.self.wrongs
    (g.P.Port.told c.args.self.now.port) (g.P.Port.told c.receive_one.new.self.port) (g.P.Port.told c.receive_next.new.self.port)
    c.receive_one.new.into c.receive_one.result c.in-Ok-Wrong.field-0 (handed_in c.receive_next.new.into c.receive_next.result)
    (ap (λ (k : Key). k.bytes) c.receive_one.ensures.key) c.in-Ok-Wrong.is c.in-Ok-Wrong.field-0-is c.receive_one.ensures.passes c.receive_next.ensures.passes
