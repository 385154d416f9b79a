use Rattle.std.proofs.Common.{rules, sym, subst}
use Rattle.share_core.specs.Host.{HostInputsView, part_with}
use Rattle.share_law.specs.HostCalls.{IsSomePart}
use Rattle.share_core.proofs.SomeParts.{some-dropped}
use Rattle.share_core.proofs.host.Host.drop_below.Goals as goal

pub invariant_of-self : goal.invariant_of-self
invariant_of-self c =
    let kept = c.self.inside.kept.items in
    let some = some-dropped c.self.inside.inputs kept c.args.floor (search rules) (search rules) c.self.invariant.2 in
    (c.self.invariant.0, c.self.invariant.1, subst (λ (e : HostInputsView). IsSomePart (part_with e kept)) (sym c.drop_below.ensures) some)
