use Rattle.std.proofs.Common.{◌∙◌, Err, ap, inr, sym}
use Rattle.proto_nodes.proofs.Standing.{no-script}
use Rattle.proto_nodes.proofs.declared.declare.Goals as goal

pub returns-then-not-is_script : goal.returns-then-not-is_script
returns-then-not-is_script c =
    λ at o rest s is. inr (
    no-script c.args.declaration.now at o c.args.inside.now rest s (is ∙ sym c.is_script.ensures ∙ c.if-not-is_script.true)
    ∙ ap (λ f. Err f) (sym c.on_line.ensures))
