use Rattle.std.proofs.Common.{FitsSigned, rules, subst, w64}
use Rattle.std.proofs.lemmas.Int.{to_z-of_z}
use Rattle.share_law.specs.Calls.{IsPartClocked}
use Rattle.share_core.specs.Host.{HostView, part_with}
use Rattle.share_core.proofs.Offers.{clocked}
use Rattle.share_core.proofs.SomeParts.{some-clocked}
use Rattle.share_core.proofs.host.Host.clock.Goals as goal

pub returns-clause-step : goal.returns-clause-step
returns-clause-step c =
    let fits : FitsSigned w64 c.args.time = search rules in
    subst (λ (v : HostView). IsPartClocked v.part c.args.time c.add.result (part_with c.add.new.self c.self.inside.kept.items)) c.self.view_is
    (clocked c.self.inside.inputs c.self.inside.kept.items c.args.time c.add.result c.add.new.self (rw (to_z-of_z w64 c.args.time fits) at c.add.ensures))

pub invariant_of-self : goal.invariant_of-self
invariant_of-self c =
    let fits : FitsSigned w64 c.args.time = search rules in
    (c.self.invariant.0, c.self.invariant.1, some-clocked c.self.inside.inputs c.add.new.self c.self.inside.kept.items c.args.time c.add.result (rw (to_z-of_z w64 c.args.time fits) at c.add.ensures) c.self.invariant.2)
