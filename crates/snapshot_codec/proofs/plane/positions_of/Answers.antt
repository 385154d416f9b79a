use Rattle.std.proofs.Common.{arith, sym}
use Rattle.std.specs.Int.{w32}
use Rattle.byte_codec.specs.Codec.{many_at, number}
use Rattle.snapshot_codec.specs.declared.fault.PartFault.TheVariants as faults
use Rattle.snapshot_codec.proofs.Loops.{goes_on, ends, is_done}
use Rattle.snapshot_codec.proofs.plane.positions_of.Goals as goal

pub returns-in_default : goal.returns-in_default
returns-in_default c = sym (ends (number w32) faults.NotCanonical c.loop.positions.items c.args.count c.loop.counter c.loop.rest.now (many_at (number w32) c.args.count c.args.bytes.now) c.loop-test.true (sym c.in_default.ensures) c.loop.invariant.read)

pub loop-preserved : goal.loop-preserved
loop-preserved c = record {
  read = rw c.push.ensures.items (goes_on (number w32) c.loop.positions.items c.args.count c.loop.counter c.loop.rest.now c.in-Some.position c.in-Some.after.now (many_at (number w32) c.args.count c.args.bytes.now) c.loop-test.true (sym c.in-Some.ensures) c.loop.invariant.read);
  len = omega (arith, c.push.ensures.len, c.loop.invariant.len);
}

pub returns : goal.returns
returns c = sym (is_done (number w32) c.loop.positions.items c.args.count c.loop.counter c.loop.rest.now (many_at (number w32) c.args.count c.args.bytes.now) c.loop-test.false c.loop.invariant.read)
