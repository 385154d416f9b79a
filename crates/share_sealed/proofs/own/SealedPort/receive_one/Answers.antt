use Rattle.std.proofs.Common.{rules, refl, take}
use Rattle.share_sealed.specs.Passing.{viewer_opens}
use Rattle.share_sealed.proofs.Opened.{viewer_fronts}
use Rattle.share_sealed.proofs.Porting.{came, passed_received}
use Rattle.share_sealed.proofs.own.SealedPort.receive_one.Goals as goal

pub returns-in-Ok-Some-clause-passes : goal.returns-in-Ok-Some-clause-passes
returns-in-Ok-Some-clause-passes g c =
    let got = rw c.in-Ok-Some.field-0-is at c.in-Ok-Some.ensures.got in (
      came c.in-Ok-Some.from (take c.in-Ok-Some.count c.receive.new.into),
      passed_received (viewer_opens c.args.self.now.key.bytes) (viewer_fronts c.args.self.now.key.bytes) c.args.self.now.wrongs.row c.in-Ok-Some.from c.in-Ok-Some.count c.receive.new.into
          c.args.self.now.wrongs c.take.new.self.wrongs (g.P.Port.told c.args.self.now.port) (g.P.Port.told c.take.new.self.port) c.take.result
          refl (search rules) (search rules) (search rules),
    )
