use Rattle.std.proofs.Common.{◌∙◌, ap, inl}
use Rattle.proto_parts.specs.Given.{has_name}
use Rattle.proto_nodes.proofs.Standing.{declared, mapped}
use Rattle.proto_nodes.proofs.declared.add.Goals as goal

pub returns-then-not-is_free : goal.returns-then-not-is_free
returns-then-not-is_free c = λ at o rest s is. inl c.on_line.ensures

pub returns : goal.returns
returns c = (
  λ at o rest s is. declared c.args.declaration.now at o c.args.inside.now rest s c.declare.new.self c.in_ok-field.field c.is_some-twice.result (is ∙ c.requires.script)
      (c.is_some-twice.ensures ∙ mapped _ c.field.result _ c.field.ensures) c.in_ok-field.ensures.known c.in_ok-field.ensures.fields c.in_ok-field.ensures.filled,
  λ once. ap (λ fs. has_name c.args.declaration.now.name fs) c.in_ok-field.ensures.filled ∙ c.is_free.ensures c.if-not-is_free.false once,
  c.in_ok-field.ensures.sound,
  c.in_ok-field.ensures.owner,
)
