use Rattle.std.proofs.Common.{sym, ap}
use Rattle.route_core.proofs.Fields.{source-known}
use Rattle.route_core.specs.declared.ends.SceneField.{SceneField}
use Rattle.route_core.proofs.ends.output_named.Goals as goal

pub returns-then-sends-clause-known : goal.returns-then-sends-clause-known
returns-then-sends-clause-known c =
    source-known c.args.scene.now c.in-Some.node c.args.name.now c.in-Some-source_field.row c.field_at.result.end
    c.in-Some.ensures.numbered (sym c.in-Some-source_field.ensures)
    (ap (λ (f : SceneField). f.end.node) c.field_at.ensures) (ap (λ (f : SceneField). f.end.field) c.field_at.ensures)
