use Rattle.std.proofs.Common.{rules, ◌≡◌, ◌∙◌, ap, length, take, Err}
use Rattle.script_slots.specs.declared.fault.StateFault.TheVariants.{Memory}
use Rattle.script_host.specs.Restoring.{with_states}
use Rattle.script_host.proofs.RestoreLemmas.{refuses_first, written}
use Rattle.script_host.proofs.scripts.Scripts.restore_all.Goals as goal

pub returns-in_err-all_fit-clause-refused : goal.returns-in_err-all_fit-clause-refused
returns-in_err-all_fit-clause-refused g c =
    let failed : c.from_residual.result ≡ Err c.in_err-all_fit.field-0.0 = search rules in
    rw failed (rw (c.as_slice.ensures.value, c.self.view_is) at (refuses_first _ _ _ c.in_err-all_fit.ensures.err))

pub returns-in_err-restore_each-clause-refused : goal.returns-in_err-restore_each-clause-refused
returns-in_err-restore_each-clause-refused g c =
    let failed : c.from_residual-in_err-restore_each.result ≡ Err Memory = search rules in
    let old = c.self.inside.slots.items in
    let same : length c.restore_each.new.slots ≡ length old = search rules in
    let left = c.in_err-restore_each.ensures.err in
    rw failed (
      rw (c.as_slice.ensures.value, c.self.view_is) at c.in_ok-all_fit.ensures.ok,
      (
        left.0,
        written c.self.inside.slots.len c.restore_each.new.slots old same (search rules)
            ∙ left.1 ∙ ap (λ rs. with_states rs (take left.0 c.args.states.now)) (c.as_mut_slice.ensures.value ∙ c.self.view_is),
      ),
    )
