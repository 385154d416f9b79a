use Rattle.std.proofs.Common.{◌∙◌, sym}
use Rattle.x3d_values.specs.Access.{sends}
use Rattle.proto_meaning.specs.Names.{source_in}
use Rattle.proto_parts.specs.Routed.{routed}
use Rattle.proto_parts.specs.Joins.{instance_by}
use Rattle.proto_parts.proofs.Joining.{named-none, named-way, named-wrong, owned-same}
use Rattle.proto_parts.proofs.sides.sources_in.Goals as goal

pub returns-in_default : goal.returns-in_default
returns-in_default c =
    λ node. owned-same c.alone.result _ _
    (named-none sends (instance_by node c.args.instance.now) (source_in c.args.instance.now.interface.now c.args.name.now) c.in_default.ensures) c.alone.ensures

pub returns-then-sends : goal.returns-then-sends
returns-then-sends c =
    λ node. owned-same c.inner_ends.result _ _
    (named-way sends (instance_by node c.args.instance.now) (routed c.in-Some.found) (source_in c.args.instance.now.interface.now c.args.name.now)
    c.in-Some.ensures (sym c.sends.ensures ∙ c.if-sends.true)) c.inner_ends.ensures

pub returns : goal.returns
returns c =
    λ node. owned-same c.alone-2.result _ _
    (named-wrong sends (instance_by node c.args.instance.now) (routed c.in-Some.found) (source_in c.args.instance.now.interface.now c.args.name.now)
    c.in-Some.ensures (sym c.sends.ensures ∙ c.if-sends.false)) c.alone-2.ensures
