use Rattle.std.proofs.Common.{ap, ◌∙◌, List, [], take, pos, rules}
use Rattle.share_rules.specs.declared.kept.SeatCount.{SeatCount}
use Rattle.share_core.specs.Host.{HostInputsView, HostView, part_with}
use Rattle.share_core.proofs.Fresh.{fresh}
use Rattle.share_core.proofs.SomeParts.{some-new}
use Rattle.share_core.proofs.host.Host.new.Goals as goal

pub returns : goal.returns
returns c =
    let kept = c.truncate.ensures.items ∙ (ap (take c.args.viewers) c.from_array_in-kept.ensures.items ∙ fresh c.default.result c.args.viewers c.requires.most c.default.ensures.0 c.default.ensures.1) in
    let empty : HostInputsView = record { floor = 1; rest = []; count = 0; last = pos 0 } in
    ap (λ (e : HostInputsView). let z : HostView = record { mark = c.args.mark; part = part_with e c.truncate.new.self.items } in z) c.new.ensures
    ∙ ap (λ (ks : List SeatCount). let z : HostView = record { mark = c.args.mark; part = part_with empty ks } in z) kept

pub invariant_of-result : goal.invariant_of-result
invariant_of-result c =
    let kept = c.truncate.ensures.items ∙ (ap (take c.args.viewers) c.from_array_in-kept.ensures.items ∙ fresh c.default.result c.args.viewers c.requires.most c.default.ensures.0 c.default.ensures.1) in
    let empty : HostInputsView = record { floor = 1; rest = []; count = 0; last = pos 0 } in
    let part = ap (λ (e : HostInputsView). part_with e c.truncate.new.self.items) c.new.ensures ∙ ap (λ (ks : List SeatCount). part_with empty ks) kept in
    (search rules, search rules, some-new c.args.viewers (part_with c.new.result c.truncate.new.self.items) part)
