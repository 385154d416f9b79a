use Rattle.std.proofs.Common.{rules, arith, ◌≡◌, ◌<◌, ◌∙◌, Err, None, ap, length}
use Rattle.std.specs.Option.{option_copied}
use Rattle.std.proofs.lemmas.List.{get_or_default}
use Rattle.scene_core.proofs.DeclaredSteps.{values-next, values-stop}
use Rattle.scene_core.proofs.values.push_declared.Goals as goal

pub loop-i-preserved : goal.loop-i-preserved
loop-i-preserved c =
    let here : c.loop-i.i < length c.in-Ok.given.items = omega (arith, c.loop-i-test.true, c.in-Ok.ensures.all) in
    let at = c.index.ensures ∙ get_or_default c.in-Ok.given.items c.loop-i.i c.index.result.now None here in
    let given = ap option_copied at ∙ c.in-Ok.ensures.each c.loop-i.i c.loop-i-test.true in
    values-next c.args.known.nodes.now c.args.known.numbers.now c.args.fields.now c.args.number c.args.interface.now c.loop-i.i c.index-interface-i.result (option_copied c.index.result.now) c.loop-i.made c.in_ok-made.made
    c.declared_value.result _ c.loop-i-test.true c.index-interface-i.is given c.loop-i.invariant c.declared_value.ensures c.in_ok-made.ensures

pub returns-in_err-made : goal.returns-in_err-made
returns-in_err-made c =
    let failed : c.from_residual.result ≡ Err c.in_err-made.field-0.0 = search rules in
    let here : c.loop-i.i < length c.in-Ok.given.items = omega (arith, c.loop-i-test.true, c.in-Ok.ensures.all) in
    let at = c.index.ensures ∙ get_or_default c.in-Ok.given.items c.loop-i.i c.index.result.now None here in
    let given = ap option_copied at ∙ c.in-Ok.ensures.each c.loop-i.i c.loop-i-test.true in
    rw failed
    (values-stop c.args.known.nodes.now c.args.known.numbers.now c.args.fields.now c.args.number c.args.interface.now c.loop-i.i c.index-interface-i.result (option_copied c.index.result.now) c.loop-i.made
    c.declared_value.result c.in_err-made.field-0.0 _ c.loop-i-test.true c.index-interface-i.is given c.loop-i.invariant c.declared_value.ensures c.in_err-made.ensures)
