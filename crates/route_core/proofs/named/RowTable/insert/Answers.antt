use Rattle.std.proofs.Common.{◌∙◌, Bool, Some, if◌then◌else◌, ap}
use Rattle.std.proofs.Math.Path.{fun_ext}
use Rattle.std.proofs.lemmas.Cmp.{nat_list_eq_equiv}
use Rattle.std.proofs.lemmas.Map.Text.{is_eq-slice_cmp}
use Rattle.route_core.specs.Named.{rows_in}
use Rattle.route_core.proofs.named.RowTable.insert.Goals as goal

pub returns : goal.returns
unfolding rows_in
returns c =
    fun_ext (λ name. c.in_ok-insert.ensures.updates.0 (record c.args.name { now = name })
    ∙ ap (λ (same : Bool). if same then Some c.args.row else rows_in c.args.self.now name)
    (is_eq-slice_cmp c.args.name.now name ∙ nat_list_eq_equiv.symm c.args.name.now name))
