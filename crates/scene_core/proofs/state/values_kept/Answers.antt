use Rattle.std.proofs.Common.{◌≡◌, ◌+◌, ◌++◌, List, Option, length, drop, ap, sym, subst, arith}
use Rattle.std.specs.Option.{option_map}
use Rattle.x3d_values.specs.declared.value.Value.{Value}
use Rattle.scene_core.specs.Scene.{shape_of}
use Rattle.scene_core.specs.Shape.{row_entry, rows_of, shape_by}
use Rattle.scene_core.proofs.KeptFields.{all_kept, kept-done, kept-more}
use Rattle.scene_core.proofs.state.values_kept.Goals as goal

pub loop-number-preserved : goal.loop-number-preserved
loop-number-preserved c =
    let node = c.args.node.now in
    let es = rows_of (shape_of node) in
    let rows = rows_of (shape_by node.node_type c.as_slice-declared.result.now) in
    let same_rows : rows ≡ es = ap (λ ds. rows_of (shape_by node.node_type ds)) c.as_slice-declared.ensures in
    let values = c.as_slice-values.result.now in
    let same_values : values ≡ node.values = c.as_slice-values.ensures in
    let counted : length rows ≡ length es = ap (λ l. length l) same_rows in
    let long : length values ≡ length node.values = ap (λ l. length l) same_values in
    let n = c.loop-number.number in
    let v = c.index-values-number.result in
    subst (λ made. made ++ all_kept (drop (n + 1) es) (drop (n + 1) node.values) ≡ all_kept es node.values) (sym c.in-Ok-push.ensures.ok)
    (kept-more es rows node.values values c.loop-number.made n _ (option_map row_entry c.row_by-row.result) v v c.in-Ok.copy (all_kept es node.values)
    (omega (arith, counted, c.count_by-count.ensures.is)) (omega (arith, long)) c.in-Ok.ensures same_rows c.row_by-row.ensures
    (omega (arith, c.count_by-count.ensures.few)) same_values c.index-values-number.is c.loop-number.invariant)

pub returns : goal.returns
returns c =
    let node = c.args.node.now in
    let es = rows_of (shape_of node) in
    let counted = ap (λ l. length (rows_of (shape_by node.node_type l))) c.as_slice-declared.ensures in
    let long = ap (λ (l : List (Option Value)). length l) c.as_slice-values.ensures in
    kept-done es node.values c.loop-number.made c.loop-number.number c.min-number-end.result (all_kept es node.values)
    (omega (arith, c.loop-number-test.false)) (omega (arith, counted, long, c.count_by-count.ensures.is)) c.loop-number.invariant
