use Rattle.std.proofs.Common.{rules, ap, ◌∙◌, sym, subst, [], ◌+◌, ℤ, List, FitsSigned, w64}
use Rattle.std.proofs.lemmas.Int.{to_z-of_z}
use Rattle.share_rules.specs.declared.kept.SeatCount.{SeatCount}
use Rattle.share_law.specs.HostCalls.{IsSomePart}
use Rattle.share_core.specs.Host.{HostInputsView, part_with}
use Rattle.share_core.proofs.Behind.{some-behind}
use Rattle.share_core.proofs.host.Host.behind.Goals as goal

pub invariant_of-result : goal.invariant_of-result
invariant_of-result c =
    let fits : FitsSigned w64 c.args.last = search rules in
    let is = c.behind.ensures ∙ ap (λ (t : ℤ). let e : HostInputsView = record { floor = c.args.count + 1; rest = []; count = c.args.count; last = t } in e) (to_z-of_z w64 c.args.last fits) in
    let part =
    ap (λ (ks : List SeatCount). part_with c.behind.result ks) c.places_of.ensures ∙ ap (λ (e : HostInputsView). part_with e c.args.kept.now) is in
    (search rules, search rules, subst IsSomePart (sym part) (some-behind c.args.count c.args.last c.args.kept.now c.requires.none))
