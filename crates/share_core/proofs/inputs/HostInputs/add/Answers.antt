use Rattle.std.proofs.Common.{◌≡◌, None, sym, ◌∙◌, subst, to_z, of_z, w64}
use Rattle.share_law.specs.Parts.{fault_behind}
use Rattle.share_core.specs.Host.{HostInputsView}
use Rattle.share_core.proofs.Numbering.{number_ok, time_ok}
use Rattle.share_core.proofs.inputs.HostInputs.add.Goals as goal

pub new-requires-clause-number : goal.new-requires-clause-number
new-requires-clause-number c =
    let t = to_z w64 (of_z w64 c.args.time) in
    let free = subst (λ (e : HostInputsView). fault_behind e.count e.last t ≡ None) (sym c.self.view_is) (sym c.fault_at.ensures ∙ c.in_default.is) in
    number_ok c.self.inside.count c.self.inside.last t free

pub new-requires-clause-time : goal.new-requires-clause-time
new-requires-clause-time c =
    let t = to_z w64 (of_z w64 c.args.time) in
    let free = subst (λ (e : HostInputsView). fault_behind e.count e.last t ≡ None) (sym c.self.view_is) (sym c.fault_at.ensures ∙ c.in_default.is) in
    time_ok c.self.inside.count c.self.inside.last t c.self.invariant.3 free
