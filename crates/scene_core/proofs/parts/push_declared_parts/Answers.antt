use Rattle.std.proofs.Common.{arith, ◌<◌, ◌∙◌, None, ap, length}
use Rattle.std.specs.Option.{option_copied}
use Rattle.std.proofs.lemmas.List.{get_or_default}
use Rattle.scene_core.proofs.DeclaredSteps.{parts-next}
use Rattle.scene_core.proofs.parts.push_declared_parts.Goals as goal

pub loop-i-preserved : goal.loop-i-preserved
loop-i-preserved c =
    let here : c.loop-i.i < length c.in_ok-given.given.items = omega (arith, c.loop-i-test.true, c.in_ok-given.ensures.all) in
    let at = c.index.ensures ∙ get_or_default c.in_ok-given.given.items c.loop-i.i c.index.result.now None here in
    let given = ap option_copied at ∙ c.in_ok-given.ensures.each c.loop-i.i c.loop-i-test.true in
    parts-next c.args.fields.now c.args.number c.args.interface.now c.loop-i.i c.index-interface-i.result (option_copied c.index.result.now) c.loop-i.out.items c.push_given.new.out.items _
    c.loop-i-test.true given c.in_ok-push_given.ensures c.loop-i.invariant
