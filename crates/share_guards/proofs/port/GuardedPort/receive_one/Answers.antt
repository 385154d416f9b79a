use Rattle.std.proofs.Common.{rules}
use Rattle.share_guards.specs.Passing.{moment}
use Rattle.share_guards.proofs.Arriving.{came_one}
use Rattle.share_guards.proofs.port.GuardedPort.receive_one.Goals as goal

pub returns-in-Ok-Some-clause-guard : goal.returns-in-Ok-Some-clause-guard
returns-in-Ok-Some-clause-guard g c =
    let got = rw c.in-Ok-Some.field-0-is at c.in-Ok-Some.ensures.got in
    came_one g.P.Port.told g.P.Placed.place_of (moment c.args.self.now.guard c.args.self.now.port) (moment c.take.new.self.guard c.take.new.self.port)
    c.in-Ok-Some.from c.in-Ok-Some.count c.receive.new.into c.take.result (search rules) (search rules) (search rules)
