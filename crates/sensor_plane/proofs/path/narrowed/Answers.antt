use Rattle.std.proofs.Common.{◌≤◌, length}
use Rattle.std.proofs.lemmas.Bool.{and_parts, leb-true}
use Rattle.sensor_plane.proofs.Paths.{one_more}
use Rattle.sensor_plane.proofs.path.narrowed.Goals as goal

pub loop-at-preserved : goal.loop-at-preserved
loop-at-preserved c =
    let ps = c.args.positions.now in
    let few : length ps ≤ 64 = leb-true (length ps) 64 (and_parts _ _ c.requires).0 in
    one_more c.loop-at.all ps c.loop-at.at c.loop-at-test.true few c.loop-at.invariant
