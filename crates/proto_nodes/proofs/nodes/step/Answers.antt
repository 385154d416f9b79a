use Rattle.std.proofs.Common.{◌≡◌, refl}
use Rattle.std.proofs.lemmas.Grind.{common_steps}
use Rattle.std.proofs.Common.{arith}
use Rattle.proto_nodes.specs.Shown.{shown}
use Rattle.proto_parts.specs.Settled.{doing}
use Rattle.proto_meaning.specs.trees.Meaning.{node}
use Rattle.proto_nodes.specs.Does.{after, body_comes, first_of}
use Rattle.proto_nodes.specs.Frames.{all_comes, frame_comes, frames_come, holder_comes, list_comes}
use Rattle.proto_nodes.proofs.Waiting.{all-goes-as, body-task-comes, list-comes, listing-sound, machine-kept, machine-popped, machine-walks, number-given, number-stays, on-comes, on-sound, statements-sound, waiting-comes, waiting-sound, wholly}
use Rattle.proto_nodes.proofs.nodes.step.Goals as goal

pub go_on-requires-clause-holder : goal.go_on-requires-clause-holder
go_on-requires-clause-holder c = on-sound c.args.task c.in-On.holder c.in-On.is c.requires.task

pub next_in_list-requires-clause-holder : goal.next_in_list-requires-clause-holder
next_in_list-requires-clause-holder c = (listing-sound c.args.task c.in-List.holder c.in-List.listing c.in-List.is c.requires.task).0

pub next_in_list-requires-clause-free : goal.next_in_list-requires-clause-free
next_in_list-requires-clause-free c = (listing-sound c.args.task c.in-List.holder c.in-List.listing c.in-List.is c.requires.task).1

pub next_statement-requires-clause-body : goal.next_statement-requires-clause-body
next_statement-requires-clause-body c = statements-sound c.args.task c.in-Body.body c.in-Body.is c.requires.task

pub wait-requires-clause-frame : goal.wait-requires-clause-frame
wait-requires-clause-frame c = waiting-sound c.args.task c.in-NodeFor.frame c.in-NodeFor.node c.in-NodeFor.is c.requires.task

pub give-requires-clause-machine : goal.give-requires-clause-machine
give-requires-clause-machine c = (machine-popped c.args.machine.now (record c.args.machine.now { frames = c.pop.new.self }) c.in-Some.frame c.in-Some.ensures.items refl c.requires.machine).0

pub give-requires-clause-frame : goal.give-requires-clause-frame
give-requires-clause-frame c = (machine-popped c.args.machine.now (record c.args.machine.now { frames = c.pop.new.self }) c.in-Some.frame c.in-Some.ensures.items refl c.requires.machine).1

pub returns-in-On-clause-goes : goal.returns-in-On-clause-goes
returns-in-On-clause-goes c =
    λ ps k. wholly ps c.args.task (holder_comes ps c.in-On.holder (shown c.args.machine.now.walker)) c.args.machine.now (record c.args.machine.now { walker = c.go_on.new.walker }) c.go_on.result
    (on-comes ps c.args.task c.in-On.holder (shown c.args.machine.now.walker) c.in-On.is) refl (c.go_on.ensures.goes ps k)

pub returns-in-On-clause-machine : goal.returns-in-On-clause-machine
returns-in-On-clause-machine c = machine-walks c.go_on.result c.args.machine.now c.go_on.new.walker c.go_on.ensures.walker c.requires.machine

pub returns-in-List-clause-goes : goal.returns-in-List-clause-goes
returns-in-List-clause-goes c =
    λ ps k. wholly ps c.args.task (list_comes ps c.in-List.holder c.in-List.listing.place c.in-List.listing.rest.now c.in-List.listing.numbers (shown c.args.machine.now.walker)) c.args.machine.now c.args.machine.now c.next_in_list.result
    (list-comes ps c.args.task c.in-List.holder c.in-List.listing (shown c.args.machine.now.walker) c.in-List.is) refl (c.next_in_list.ensures.goes ps (shown c.args.machine.now.walker))

pub returns-in-Body-clause-goes : goal.returns-in-Body-clause-goes
returns-in-Body-clause-goes c =
    λ ps k. wholly ps c.args.task (body_comes ps c.in-Body.body.around.value c.in-Body.body.rest.now (first_of c.in-Body.body.first) (shown c.args.machine.now.walker)) c.args.machine.now (record c.args.machine.now { walker = c.next_statement.new.walker }) c.next_statement.result
    (body-task-comes ps c.args.task c.in-Body.body (shown c.args.machine.now.walker) c.in-Body.is) refl (c.next_statement.ensures.goes ps)

pub returns-in-Body-clause-machine : goal.returns-in-Body-clause-machine
returns-in-Body-clause-machine c = machine-walks c.next_statement.result c.args.machine.now c.next_statement.new.walker c.next_statement.ensures.walker c.requires.machine

pub returns-in-NodeFor-clause-goes : goal.returns-in-NodeFor-clause-goes
returns-in-NodeFor-clause-goes c =
    λ ps k. all-goes-as ps (all_comes ps c.args.task c.args.machine.now)
    (after (after (doing (node ps c.in-NodeFor.node.now).does (shown c.args.machine.now.walker)) (frame_comes ps c.in-NodeFor.frame)) (frames_come ps c.args.machine.now.frames.items)) c.wait.result c.wait.new.machine
    (waiting-comes ps c.args.task c.in-NodeFor.frame c.in-NodeFor.node c.args.machine.now c.in-NodeFor.is) (c.wait.ensures.goes ps k)

pub returns-in-None-clause-goes : goal.returns-in-None-clause-goes
returns-in-None-clause-goes c =
    let same : c.pop.new.self.items ≡ c.args.machine.now.frames.items = grind (arith, common_steps) in
    λ ps k. number-stays ps c.args.task c.in-Number.number c.args.machine.now (record c.args.machine.now { frames = c.pop.new.self }) c.in-Number.is same refl

pub returns-in-None-clause-machine : goal.returns-in-None-clause-machine
returns-in-None-clause-machine c =
    let same : c.pop.new.self.items ≡ c.args.machine.now.frames.items = grind (arith, common_steps) in
    machine-kept c.args.machine.now (record c.args.machine.now { frames = c.pop.new.self }) same refl c.requires.machine

pub returns-in-Some-clause-goes : goal.returns-in-Some-clause-goes
returns-in-Some-clause-goes c =
    λ ps k. number-given ps c.args.task c.in-Number.number c.args.machine.now (record c.args.machine.now { frames = c.pop.new.self }) c.in-Some.frame c.give.new.machine c.give.result c.in-Number.is c.in-Some.ensures.items refl c.give.ensures.frames (c.give.ensures.goes ps)
