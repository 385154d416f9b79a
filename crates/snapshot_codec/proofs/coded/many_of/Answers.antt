use Rattle.byte_codec.specs.Codec.{many_at}
use Rattle.snapshot_codec.proofs.Loops.{goes_on, ends, is_done}
use Rattle.snapshot_codec.proofs.coded.many_of.Goals as goal

pub returns-in-Err : goal.returns-in-Err
returns-in-Err g c = ends g.T.Coded.codec _ c.loop.items c.args.count c.loop.counter c.loop.rest.now (many_at g.T.Coded.codec c.args.count c.args.bytes.now) c.loop-test.true c.in-Err.ensures c.loop.invariant

pub loop-preserved : goal.loop-preserved
loop-preserved g c =
    rw c.in-Ok-push.ensures.ok (goes_on g.T.Coded.codec c.loop.items c.args.count c.loop.counter c.loop.rest.now _ _ (many_at g.T.Coded.codec c.args.count c.args.bytes.now) c.loop-test.true c.in-Ok.ensures c.loop.invariant)

pub returns : goal.returns
returns g c = is_done g.T.Coded.codec c.loop.items c.args.count c.loop.counter c.loop.rest.now (many_at g.T.Coded.codec c.args.count c.args.bytes.now) c.loop-test.false c.loop.invariant
