use Rattle.std.proofs.Common.{refl}
use Rattle.std.specs.Prelude.{length}
use Rattle.std.proofs.lemmas.Option.{slice_get_read}
use Rattle.share_rehearsal.proofs.Plays.{ended-more}
use Rattle.share_rehearsal.proofs.ending.push_endings.Goals as goal

pub loop-number-preserved : goal.loop-number-preserved
loop-number-preserved g c =
    let viewers = c.args.viewers.now in
    let n = c.loop-number.number in
    let v = c.index-viewers-number.result in
    let at = slice_get_read viewers (length viewers) n v refl c.loop-number-test.true c.index-viewers-number.is in
    ended-more viewers n v c.args.out.now.items c.loop-number.out.items c.push_ending.new.out.items c.loop-number.invariant c.loop-number-test.true at c.in_ok-push_ending.ensures
