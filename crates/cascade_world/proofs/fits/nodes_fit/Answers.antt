use Rattle.std.proofs.Common.{rules, arith, ◌≡◌, ◌∙◌, sym, subst, length, refl, ℕ, Some}
use Rattle.std.specs.Prelude.{slice_get}
use Rattle.std.proofs.lemmas.Option.{slice_get_read}
use Rattle.std.proofs.lemmas.List.{length-map}
use Rattle.scene_core.specs.Scene.{SceneView, shape_of, shapes_of}
use Rattle.cascade_world.proofs.Fitting.{AreMany, counted, node_fails, node_more, nodes_done, nodes_uncounted}
use Rattle.cascade_world.proofs.fits.nodes_fit.Goals as goal

all : (scene : SceneView) (count : ℕ) → count ≡ length scene.nodes → count ≡ length (shapes_of scene)
all scene count is = is ∙ sym (length-map scene.nodes shape_of)

pub returns-then-not-has_nodes : goal.returns-then-not-has_nodes
returns-then-not-has_nodes c =
    let w = c.args.world.now in
    nodes_uncounted (shapes_of c.args.scene.now) w.fields w.sensors w.pointing c.args.count c.has_nodes.result (all c.args.scene.now c.args.count c.requires) c.has_nodes.ensures c.if-not-has_nodes.true

pub returns-then-not-node_fits : goal.returns-then-not-node_fits
returns-then-not-node_fits c =
    let w = c.args.world.now in
    let many = subst (λ n. AreMany n w.fields w.sensors w.pointing) (all c.args.scene.now c.args.count c.requires) (counted c.args.count w.fields w.sensors w.pointing (sym c.has_nodes.ensures ∙ c.if-not-has_nodes.false)) in
    let whole = all c.args.scene.now c.args.count c.requires in
    let at_f : slice_get w.fields c.loop-node.node ≡ Some c.index-fields-at.result =
    slice_get_read w.fields (length w.fields) c.loop-node.node c.index-fields-at.result refl (omega (arith, c.loop-node-test.true, many.of_fields, whole)) (search rules) in
    let at_c : slice_get w.sensors c.loop-node.node ≡ Some c.index-sensors-at.result =
    slice_get_read w.sensors (length w.sensors) c.loop-node.node c.index-sensors-at.result refl (omega (arith, c.loop-node-test.true, many.of_cycles, whole)) (search rules) in
    let at_u : slice_get w.pointing c.loop-node.node ≡ Some c.index-pointing-at.result =
    slice_get_read w.pointing (length w.pointing) c.loop-node.node c.index-pointing-at.result refl (omega (arith, c.loop-node-test.true, many.of_pointing, whole)) (search rules) in
    node_fails (shapes_of c.args.scene.now) w.fields w.sensors w.pointing c.loop-node.node c.index-fields-at.result c.index-sensors-at.result c.index-pointing-at.result _ many at_f at_c at_u c.loop-node.invariant c.node_fits.result c.node_fits.ensures c.if-not-node_fits.true

pub loop-node-preserved : goal.loop-node-preserved
loop-node-preserved c =
    let w = c.args.world.now in
    let many = subst (λ n. AreMany n w.fields w.sensors w.pointing) (all c.args.scene.now c.args.count c.requires) (counted c.args.count w.fields w.sensors w.pointing (sym c.has_nodes.ensures ∙ c.if-not-has_nodes.false)) in
    let whole = all c.args.scene.now c.args.count c.requires in
    let at_f : slice_get w.fields c.loop-node.node ≡ Some c.index-fields-at.result =
    slice_get_read w.fields (length w.fields) c.loop-node.node c.index-fields-at.result refl (omega (arith, c.loop-node-test.true, many.of_fields, whole)) (search rules) in
    let at_c : slice_get w.sensors c.loop-node.node ≡ Some c.index-sensors-at.result =
    slice_get_read w.sensors (length w.sensors) c.loop-node.node c.index-sensors-at.result refl (omega (arith, c.loop-node-test.true, many.of_cycles, whole)) (search rules) in
    let at_u : slice_get w.pointing c.loop-node.node ≡ Some c.index-pointing-at.result =
    slice_get_read w.pointing (length w.pointing) c.loop-node.node c.index-pointing-at.result refl (omega (arith, c.loop-node-test.true, many.of_pointing, whole)) (search rules) in
    node_more (shapes_of c.args.scene.now) w.fields w.sensors w.pointing c.loop-node.node c.index-fields-at.result c.index-sensors-at.result c.index-pointing-at.result _ many at_f at_c at_u c.loop-node.invariant c.node_fits.result c.node_fits.ensures c.if-not-node_fits.false

pub returns : goal.returns
returns c =
    let w = c.args.world.now in
    let many = subst (λ n. AreMany n w.fields w.sensors w.pointing) (all c.args.scene.now c.args.count c.requires) (counted c.args.count w.fields w.sensors w.pointing (sym c.has_nodes.ensures ∙ c.if-not-has_nodes.false)) in
    nodes_done (shapes_of c.args.scene.now) w.fields w.sensors w.pointing c.loop-node.node _ many (omega (arith, c.loop-node-test.false, all c.args.scene.now c.args.count c.requires)) c.loop-node.invariant
