use Rattle.std.proofs.Common.{arith, ◌<◌, ◌≤◌, length}
use Rattle.std.specs.Prelude.{None}
use Rattle.share_keeping.specs.Joiners.{restarted}
use Rattle.share_keeping.proofs.Mapped.{mapped_all, mapped_more, mapped_none}
use Rattle.share_keeping.proofs.joiners.restart_all.Goals as goal

pub loop-seat-init : goal.loop-seat-init
loop-seat-init c = mapped_none restarted c.args.seats.now

pub loop-seat-preserved : goal.loop-seat-preserved
loop-seat-preserved c =
    let lt : c.loop-seat.seat-index < length c.loop-seat.seats = omega arith in
    mapped_more restarted c.args.seats.now c.loop-seat.seats c.loop-seat.seat-index None c.restarted.result lt c.restarted.ensures c.loop-seat.invariant

pub returns : goal.returns
returns c =
    let le : length c.loop-seat.seats ≤ c.loop-seat.seat-index = omega arith in
    mapped_all restarted c.args.seats.now c.loop-seat.seats c.loop-seat.seat-index le c.loop-seat.invariant
