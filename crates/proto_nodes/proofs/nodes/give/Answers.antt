use Rattle.proto_nodes.specs.Shown.{shown}
use Rattle.proto_nodes.proofs.Waiting.{body-sound, frame-body, frame-list, frame-one, list-sound, machine-walks, one-sound}
use Rattle.proto_nodes.proofs.nodes.give.Goals as goal

pub keep-requires-clause-holder : goal.keep-requires-clause-holder
keep-requires-clause-holder c = (one-sound c.args.frame c.in-One.holder c.in-One.place c.in-One.is c.requires.frame).0

pub keep-requires-clause-free : goal.keep-requires-clause-free
keep-requires-clause-free c = (one-sound c.args.frame c.in-One.holder c.in-One.place c.in-One.is c.requires.frame).1

pub add_number-requires-clause-holder : goal.add_number-requires-clause-holder
add_number-requires-clause-holder c = (list-sound c.args.frame c.in-List.holder c.in-List.listing c.in-List.is c.requires.frame).0

pub add_number-requires-clause-free : goal.add_number-requires-clause-free
add_number-requires-clause-free c = (list-sound c.args.frame c.in-List.holder c.in-List.listing c.in-List.is c.requires.frame).1

pub hold-requires-clause-body : goal.hold-requires-clause-body
hold-requires-clause-body c = body-sound c.args.frame c.in-Body.body c.in-Body.is c.requires.frame

pub returns-in-One-clause-goes : goal.returns-in-One-clause-goes
returns-in-One-clause-goes c = λ ps. frame-one ps c.args.frame c.in-One.holder c.in-One.place c.args.number (shown c.args.machine.now.walker) (shown c.args.machine.now.walker) c.keep.result c.in-One.is (c.keep.ensures.goes ps (shown c.args.machine.now.walker))

pub returns-in-List-clause-goes : goal.returns-in-List-clause-goes
returns-in-List-clause-goes c = λ ps. frame-list ps c.args.frame c.in-List.holder c.in-List.listing c.args.number (shown c.args.machine.now.walker) (shown c.args.machine.now.walker) c.add_number.result c.in-List.is (c.add_number.ensures.goes ps (shown c.args.machine.now.walker))

pub returns-in-Body-clause-goes : goal.returns-in-Body-clause-goes
returns-in-Body-clause-goes c = λ ps. frame-body ps c.args.frame c.in-Body.body c.args.number (shown c.args.machine.now.walker) (shown c.hold.new.walker) c.hold.result c.in-Body.is (c.hold.ensures.goes ps)

pub returns-in-Body-clause-machine : goal.returns-in-Body-clause-machine
returns-in-Body-clause-machine c = machine-walks c.hold.result c.args.machine.now c.hold.new.walker c.hold.ensures.walker c.requires.machine
