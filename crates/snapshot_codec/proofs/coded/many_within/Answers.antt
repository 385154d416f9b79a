use Rattle.std.proofs.Common.{sym, rules}
use Rattle.std.specs.Prelude.{FitsSigned}
use Rattle.std.specs.Int.{w64}
use Rattle.std.proofs.lemmas.Int.{to_z-of_z}
use Rattle.byte_codec.specs.Codec.{many_at}
use Rattle.snapshot_codec.specs.Values.{within}
use Rattle.snapshot_codec.specs.declared.fault.PartFault.TheVariants as faults
use Rattle.snapshot_codec.proofs.Loops.{goes_on, ends, is_done}
use Rattle.snapshot_codec.proofs.coded.many_within.Goals as goal

pub returns-in_default : goal.returns-in_default
returns-in_default c = ends (within c.args.limit) faults.NotCanonical c.loop.items c.args.count c.loop.counter c.loop.rest.now (many_at (within c.args.limit) c.args.count c.args.bytes.now) c.loop-test.true (sym c.in_default.ensures) c.loop.invariant

pub loop-preserved : goal.loop-preserved
loop-preserved c =
    let fits : FitsSigned w64 c.in-Some.item = search rules in
    let pushed = rw (to_z-of_z w64 c.in-Some.item fits) at c.in_ok-push.ensures.ok in
    rw pushed (goes_on (within c.args.limit) c.loop.items c.args.count c.loop.counter c.loop.rest.now c.in-Some.item c.in-Some.after.now (many_at (within c.args.limit) c.args.count c.args.bytes.now) c.loop-test.true (sym c.in-Some.ensures) c.loop.invariant)

pub returns : goal.returns
returns c = is_done (within c.args.limit) c.loop.items c.args.count c.loop.counter c.loop.rest.now (many_at (within c.args.limit) c.args.count c.args.bytes.now) c.loop-test.false c.loop.invariant
