use Rattle.std.proofs.Common.{◌≤◌, ◌∙◌, ap, Some, length, take, arith}
use Rattle.sensor_plane.proofs.Paths.{is_list_path, taken}
use Rattle.sensor_plane.proofs.path.ListPath.from_u32.Goals as goal

pub returns : goal.returns
returns c =
    let xs = c.args.positions.now in
    let few : length xs ≤ 64 = omega (arith, c.if-positions-gt-MAX_POSITIONS.false) in
    ap Some (ap (take (length xs)) c.padded.ensures ∙ taken xs) ∙ is_list_path xs few c.type_inv.positions
