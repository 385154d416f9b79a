use Rattle.std.proofs.Common.{◌≡◌, ap, sym, subst, ◌∙◌}
use Rattle.std.specs.Prelude.{IfOk, Some}
use Rattle.proto_meaning.specs.Names.{Stands, target_ends}
use Rattle.proto_parts.specs.Joined.{owned}
use Rattle.proto_parts.specs.Joins.{instance_by, stands_by}
use Rattle.proto_parts.specs.declared.joins.InstanceEnds.{InstanceEnds}
use Rattle.proto_parts.proofs.sides.targets.Goals as goal

pub returns : goal.returns
returns c =
    let node = c.in-Some.stands.now.node in
    let stands : instance_by node c.deref.result.now ≡ stands_by node c.in-Some.stands.now.instance =
    ap (λ (i : InstanceEnds). instance_by node i) c.deref.ensures ∙ sym (ap (stands_by node) c.in-Some-instance.is) in
    rw (c.in-Some.is) (subst (λ (s : Stands). IfOk c.targets_in.result (λ ends. owned ends ≡ target_ends c.args.name.now (Some s))) stands (c.targets_in.ensures node))
