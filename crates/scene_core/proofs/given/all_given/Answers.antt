use Rattle.std.proofs.Common.{rules, ◌≡◌, ◌+◌, ◌∙◌, None, replicate, arith}
use Rattle.scene_core.proofs.GivenFields.{given-none, given-next, given-last}
use Rattle.scene_core.proofs.given.all_given.Goals as goal

pub loop-field-init : goal.loop-field-init
loop-field-init c =
    let e : c.in_ok-table.table.items ≡ replicate c.args.count None = search rules in
    given-none c.args.fields.now c.args.number c.args.count _ e

pub loop-field-preserved : goal.loop-field-preserved
loop-field-preserved c = (
  c.put_field.ensures.all ∙ c.loop-field.invariant.0,
  λ k h. given-next c.args.fields.now c.loop-field.field-index (c.args.number + k) c.field-item.result _ _ c.loop-field-test.true
      (c.put_field.ensures.each k (omega (arith, h, c.loop-field.invariant.0))) (c.loop-field.invariant.1 k h) c.field-item.is,
)

pub returns-clause-all : goal.returns-clause-all
returns-clause-all c = c.loop-field.invariant.0

pub returns-clause-each : goal.returns-clause-each
returns-clause-each c =
    λ k h. given-last c.args.fields.now c.loop-field.field-index (c.args.number + k) _ c.loop-field-test.false (c.loop-field.invariant.1 k h)
