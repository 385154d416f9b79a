use Rattle.std.proofs.Common.{length, ◌≤◌, arith}
use Rattle.std.proofs.lemmas.List.{take_rest, drop_all}
use Rattle.classic_lenient.proofs.Scanning.{went, ended}
use Rattle.classic_lenient.proofs.scan.unread_in.Goals as goal

pub loop-at-preserved : goal.loop-at-preserved
loop-at-preserved c =
    went c.args.pieces.now _ c.loop-at.at _ _ _ c.loop-at.place _ (take_rest c.args.pieces.now c.loop-at.at) c.in_ok-place.ensures c.loop-at.invariant

pub returns : goal.returns
returns c =
    let past : length c.args.pieces.now ≤ c.loop-at.at = omega arith in
    ended c.args.pieces.now c.loop-at.at _ _ c.loop-at.place (drop_all c.loop-at.at c.args.pieces.now past) c.loop-at.invariant
