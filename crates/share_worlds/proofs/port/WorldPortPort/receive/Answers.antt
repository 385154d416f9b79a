use Rattle.share_worlds.proofs.Taking.{oldest, front_of}
use Rattle.share_worlds.proofs.port.WorldPortPort.receive.Goals as goal

pub returns-clause-taken : goal.returns-clause-taken
returns-clause-taken c = (
  c.in-Some.parcel,
  oldest c.pop.result c.in-Some.parcel c.args.self.now.inbox c.pop.new.self c.in-Some.is c.pop.ensures.taken,
  front_of c.copy_front-count.result c.copy_front-count.new.into c.as_slice.result.now c.in-Some.parcel.bytes
      c.copy_front-count.ensures.count c.copy_front-count.ensures.front c.as_slice.ensures.bytes,
  c.in-Some-number_of.ensures.at,
)
