use Rattle.proto_nodes.proofs.Waiting.{next-err, next-goes, sound-at}
use Rattle.proto_nodes.proofs.holders.proceed.Goals as goal

pub begin_next-requires-clause-walker : goal.begin_next-requires-clause-walker
begin_next-requires-clause-walker c = (sound-at c.args.holder c.in-Ok.next c.args.next c.args.walker.now c.in-Ok.is c.requires).0

pub begin_next-requires-clause-holder : goal.begin_next-requires-clause-holder
begin_next-requires-clause-holder c = (sound-at c.args.holder c.in-Ok.next c.args.next c.args.walker.now c.in-Ok.is c.requires).1

pub begin_next-requires-clause-fits : goal.begin_next-requires-clause-fits
begin_next-requires-clause-fits c = (sound-at c.args.holder c.in-Ok.next c.args.next c.args.walker.now c.in-Ok.is c.requires).2

pub returns-in-Ok-clause-goes : goal.returns-in-Ok-clause-goes
returns-in-Ok-clause-goes c = λ ps o k goes. c.begin_next.ensures.goes ps o k (next-goes ps o c.args.holder c.args.next c.in-Ok.next c.args.walker.now c.in-Ok.is goes)

pub returns-in-Err-clause-goes : goal.returns-in-Err-clause-goes
returns-in-Err-clause-goes c = λ ps o k goes. next-err ps o c.args.holder c.args.next c.in-Err.fault c.args.walker.now c.in-Err.is goes
