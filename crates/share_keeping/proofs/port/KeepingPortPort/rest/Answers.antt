use Rattle.std.proofs.Common.{rules}
use Rattle.share_keeping.proofs.Resting.{rest_is}
use Rattle.share_keeping.proofs.port.KeepingPortPort.rest.Goals as goal

pub returns-clause-given : goal.returns-clause-given
returns-clause-given g c = (
  c.give_if_joined-is_whole.result,
  rw c.note_lost.ensures (rest_is c.args.self.now.mark c.args.self.now.stage c.rest-millis.result c.give_if_joined-is_whole.result c.args.self.now.joiners c.pass.new.self c.give_if_joined-is_whole.new.self.joiners
      c.args.self.now.shot c.give_if_joined-is_whole.new.self.shot (g.P.Port.told c.args.self.now.port) (g.P.Port.told c.rest-millis.new.self) (g.P.Port.told c.give_if_joined-is_whole.new.self.port)
      c.pass.ensures c.rest-millis.ensures.told c.give_if_joined-is_whole.ensures.given),
  search rules,
)
