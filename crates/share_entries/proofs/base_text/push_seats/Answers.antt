use Rattle.std.proofs.Common.{◌≡◌, ◌+◌, length, arith}
use Rattle.share_rules.specs.declared.kept.SeatCount.{SeatCount}
use Rattle.share_entries.specs.Base.{seat_codec}
use Rattle.share_entries.proofs.Loops.{one_more, fits_one_more}
use Rattle.share_entries.proofs.base_text.push_seats.Goals as goal

pub loop-seat-preserved : goal.loop-seat-preserved
loop-seat-preserved c =
    let i = c.loop-seat.seat-index in
    let kept = c.args.kept.now in
    let now = c.loop-seat.out.items in
    let new = c.push_seat.new.out.items in
    let so_far = c.loop-seat.invariant in
    let d : SeatCount = record { boot = 0; count = 0 } in
    let long : length new ≡ length now + 8 = c.in_ok-push_seat.ensures.len in
    record {
      text = one_more seat_codec.write kept i d c.args.out.now.items now new c.loop-seat-test.true so_far.text c.in_ok-push_seat.ensures.text;
      len = omega (arith, so_far.len, long);
      fit = fits_one_more seat_codec kept i d c.loop-seat-test.true so_far.fit c.push_seat.ensures.fits;
    }
