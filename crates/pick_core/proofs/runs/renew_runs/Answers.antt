use Rattle.std.proofs.Common.{◌∙◌, ◌++◌, drop, take, length, ap, sym, subst}
use Rattle.std.specs.Prelude.{◌/◌}
use Rattle.pick_core.specs.Runs.{seen_in}
use Rattle.pick_core.specs.Tree.{IsOver, IsOverBut, IsRenewed}
use Rattle.pick_core.proofs.TreeRuns.{over-but, written}
use Rattle.pick_core.proofs.runs.renew_runs.Goals as goal

pub renew_boxes-requires : goal.renew_boxes-requires
renew_boxes-requires c = subst (λ xs. IsOverBut c.args.first c.args.last xs (seen_in c.args.rows.now)) (sym c.as_mut_slice.ensures.value) c.requires.runs

pub renew_groups-requires : goal.renew_groups-requires
renew_groups-requires c =
    let tree = c.args.tree.now in
    let first = c.args.first in
    let last = c.args.last in
    let boxes = seen_in c.args.rows.now in
    let new = c.renew_boxes.new.runs in
    let renewed : IsRenewed first last tree.runs.items new boxes = subst (λ xs. IsRenewed first last xs new boxes) c.as_mut_slice.ensures.value c.renew_boxes.ensures in
    let whole = written tree.runs.len new tree.runs.items tree.runs.ok.0 renewed.long in
    let over : IsOverBut (first / 16) (last / 16) tree.groups.items new = over-but (first / 16) (last / 16) tree.groups.items tree.runs.items new c.requires.groups renewed.long renewed.outside in
    let there : IsOverBut (first / 16) (last / 16) tree.groups.items c.as_slice.result.now = subst (λ xs. IsOverBut (first / 16) (last / 16) tree.groups.items xs) (sym (c.as_slice.ensures.value ∙ whole)) over in
    subst (λ xs. IsOverBut (first / 16) (last / 16) xs c.as_slice.result.now) (sym c.as_mut_slice-2.ensures.value) there

pub returns : goal.returns
returns c =
    let tree = c.args.tree.now in
    let first = c.args.first in
    let last = c.args.last in
    let boxes = seen_in c.args.rows.now in
    let new = c.renew_boxes.new.runs in
    let renewed : IsRenewed first last tree.runs.items new boxes = subst (λ xs. IsRenewed first last xs new boxes) c.as_mut_slice.ensures.value c.renew_boxes.ensures in
    let whole = written tree.runs.len new tree.runs.items tree.runs.ok.0 renewed.long in
    let runs = take tree.runs.len (new ++ drop (length new) tree.runs.items) in
    let groups = c.renew_groups.new.groups in
    let all = written tree.groups.len groups tree.groups.items tree.groups.ok.0 (c.renew_groups.ensures.long ∙ ap length c.as_mut_slice-2.ensures.value) in
    let over : IsOver groups runs = subst (λ xs. IsOver groups xs) c.as_slice.ensures.value c.renew_groups.ensures.over in
    record {
      runs = subst (λ xs. IsOver xs boxes) (sym whole) renewed.over;
      groups = subst (λ xs. IsOver xs runs) (sym all) over;
    }
