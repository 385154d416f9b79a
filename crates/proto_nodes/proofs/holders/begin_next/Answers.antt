use Rattle.std.proofs.Common.{ap}
use Rattle.proto_nodes.specs.Shown.{shown}
use Rattle.proto_nodes.proofs.Waiting.{fits-closed, fits-list, fits-one, next-closed, next-list, next-on, next-one}
use Rattle.proto_nodes.proofs.holders.begin_next.Goals as goal

pub returns-in-On-clause-goes : goal.returns-in-On-clause-goes
returns-in-On-clause-goes c = λ ps o k goes. next-on ps o c.args.holder c.args.next (shown c.args.walker.now) c.in-On.is goes

pub returns-in-One-clause-goes : goal.returns-in-One-clause-goes
returns-in-One-clause-goes c = λ ps o k goes. next-one ps o c.args.holder c.in-One.place c.in-One.node c.args.next (shown c.args.walker.now) c.in-One.is goes

pub returns-in-One-clause-sound : goal.returns-in-One-clause-sound
returns-in-One-clause-sound c = fits-one c.args.holder c.args.next c.in-One.place c.in-One.node c.in-One.is c.requires.holder c.requires.fits

pub returns-in-List-clause-goes : goal.returns-in-List-clause-goes
returns-in-List-clause-goes c =
    λ ps o k goes. next-list ps o c.args.holder c.in-List.place c.in-List.nodes c.listing.result c.args.next (shown c.args.walker.now) c.in-List.is goes c.listing.ensures.place (ap (λ r. r.now) c.listing.ensures.rest) c.listing.ensures.numbers

pub returns-in-List-clause-sound : goal.returns-in-List-clause-sound
returns-in-List-clause-sound c = fits-list c.args.holder c.args.next c.in-List.place c.in-List.nodes c.listing.result c.in-List.is c.listing.ensures.place c.requires.holder c.requires.fits

pub close-requires-clause-done : goal.close-requires-clause-done
close-requires-clause-done c = fits-closed c.args.holder c.args.next c.in-Closed.is c.requires.fits

pub returns-in-Closed-clause-goes : goal.returns-in-Closed-clause-goes
returns-in-Closed-clause-goes c =
    λ ps o k goes. next-closed ps o c.args.holder c.args.next c.close.result (shown c.args.walker.now) (shown c.close.new.walker) c.in-Closed.is goes (c.close.ensures.goes ps k)
