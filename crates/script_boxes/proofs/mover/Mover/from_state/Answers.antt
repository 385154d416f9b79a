use Rattle.std.proofs.Common.{rules, pos, arith, slice_index_or}
use Rattle.std.proofs.lemmas.Int.{to_z-of_z}
use mir.Syntax.{w64}
use mir.Val.{SFits}
use Rattle.script_boxes.proofs.NumberLists.{six}
use Rattle.script_boxes.proofs.mover.Mover.from_state.Goals as goal

pub returns-clause-ok : goal.returns-clause-ok
returns-clause-ok c =
    let s = c.args.state.now in
    let a : SFits w64 (slice_index_or s 0 (pos 0)) = search rules in
    let b : SFits w64 (slice_index_or s 1 (pos 0)) = search rules in
    let d : SFits w64 (slice_index_or s 2 (pos 0)) = search rules in
    let e : SFits w64 (slice_index_or s 3 (pos 0)) = search rules in
    let f : SFits w64 (slice_index_or s 4 (pos 0)) = search rules in
    let g : SFits w64 (slice_index_or s 5 (pos 0)) = search rules in
    simp to_z-of_z (six s (omega arith) (omega arith))
