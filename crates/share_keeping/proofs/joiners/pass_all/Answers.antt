use Rattle.std.proofs.Common.{arith, ◌<◌, ◌≤◌, length}
use Rattle.std.specs.Prelude.{None}
use Rattle.share_keeping.specs.Joiners.{after_time}
use Rattle.share_keeping.proofs.Mapped.{mapped_all, mapped_more, mapped_none}
use Rattle.share_keeping.proofs.joiners.pass_all.Goals as goal

pub loop-seat-init : goal.loop-seat-init
loop-seat-init c = mapped_none (after_time c.args.millis) c.args.seats.now

pub loop-seat-preserved : goal.loop-seat-preserved
loop-seat-preserved c =
    let lt : c.loop-seat.seat-index < length c.loop-seat.seats = omega arith in
    mapped_more (after_time c.args.millis) c.args.seats.now c.loop-seat.seats c.loop-seat.seat-index None c.after_time.result lt c.after_time.ensures c.loop-seat.invariant

pub returns : goal.returns
returns c =
    let le : length c.loop-seat.seats ≤ c.loop-seat.seat-index = omega arith in
    mapped_all (after_time c.args.millis) c.args.seats.now c.loop-seat.seats c.loop-seat.seat-index le c.loop-seat.invariant
