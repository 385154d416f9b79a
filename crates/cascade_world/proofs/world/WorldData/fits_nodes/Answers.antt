use Rattle.std.proofs.Common.{◌∙◌, sym, ap, length}
use Rattle.std.proofs.lemmas.List.{length-map}
use Rattle.scene_core.specs.Scene.{shape_of, shapes_of}
use Rattle.sensor_plane.specs.declared.pointing.PointingState.{PointingState}
use Rattle.std.specs.Prelude.{List}
use Rattle.cascade_world.proofs.Fitting.{all_many}
use Rattle.cascade_world.proofs.world.WorldData.fits_nodes.Goals as goal

pub all_lead-requires : goal.all_lead-requires
all_lead-requires c =
    let w = c.args.self.now in
    let scene = c.args.scene.now in
    ap (λ (ps : List PointingState). length ps) c.as_slice.ensures
    ∙ all_many (shapes_of scene) w.fields w.sensors w.pointing (sym c.nodes_fit.ensures ∙ c.if-not-nodes_fit.false)
    ∙ length-map scene.nodes shape_of ∙ sym c.requires
