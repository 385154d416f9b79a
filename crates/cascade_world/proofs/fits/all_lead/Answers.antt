use Rattle.std.proofs.Common.{rules, arith, ◌≡◌, ◌∙◌, length, refl, Some}
use Rattle.std.specs.Prelude.{slice_get}
use Rattle.std.proofs.lemmas.Option.{slice_get_read}
use Rattle.cascade_world.proofs.Fitting.{lead_fails, lead_more, leads_done}
use Rattle.cascade_world.proofs.fits.all_lead.Goals as goal

pub returns-then-not-leads : goal.returns-then-not-leads
returns-then-not-leads c =
    let pointing = c.args.pointing.now in
    let at : slice_get pointing c.loop-node.node ≡ Some c.state.result =
    slice_get_read pointing (length pointing) c.loop-node.node c.state.result refl (omega (arith, c.loop-node-test.true, c.requires)) (c.state.ensures ∙ search rules) in
    lead_fails c.args.scene.now pointing c.loop-node.node _ c.loop-node.invariant c.state.result at c.leads.result c.leads.ensures c.if-not-leads.true

pub loop-node-preserved : goal.loop-node-preserved
loop-node-preserved c =
    let pointing = c.args.pointing.now in
    let at : slice_get pointing c.loop-node.node ≡ Some c.state.result =
    slice_get_read pointing (length pointing) c.loop-node.node c.state.result refl (omega (arith, c.loop-node-test.true, c.requires)) (c.state.ensures ∙ search rules) in
    lead_more c.args.scene.now pointing c.loop-node.node _ c.loop-node.invariant c.state.result at c.leads.result c.leads.ensures c.if-not-leads.false

pub returns : goal.returns
returns c = leads_done c.args.scene.now c.args.pointing.now c.loop-node.node _ c.loop-node.invariant (omega (arith, c.loop-node-test.false, c.requires))
