use Rattle.std.proofs.Common.{◌∙◌, sym}
use Rattle.cascade_world.proofs.Fitting.{node_by, nowhere}
use Rattle.cascade_world.proofs.fits.node_fits.Goals as goal

pub returns-in-Some : goal.returns-in-Some
returns-in-Some c =
    node_by c.args.scene.now c.args.node c.in-Some.node_type c.args.fields.now c.args.time c.args.slot.now c.typed_node_fits.result (sym c.type_at.ensures ∙ c.in-Some.is) c.typed_node_fits.ensures

pub returns-in-None : goal.returns-in-None
returns-in-None c = nowhere c.args.scene.now c.args.node c.args.fields.now c.args.time c.args.slot.now (sym c.type_at.ensures ∙ c.in-None.is)
