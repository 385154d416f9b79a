use Rattle.std.proofs.Common.{rules, ◌≡◌, ◌∙◌, ap, sym, false, List}
use Rattle.std.specs.Prelude.{slice_get}
use Rattle.x3d_values.specs.declared.fields.Fields.{Fields}
use Rattle.pick_core.specs.Sites.{IsSameBut, rows_of}
use Rattle.scene_core.specs.Scene.{shapes_of, types_of}
use Rattle.cascade_world.specs.Answers.{answer}
use Rattle.cascade_world.specs.Nodes.{moves_boxes}
use Rattle.cascade_world.specs.declared.world.WorldData.{WorldData}
use Rattle.cascade_core.proofs.Shown.{answer-rows, answer-same}
use Rattle.cascade_core.proofs.boxes.answer.Goals as goal

pub returns-then-not-moves_boxes-clause-boxes : goal.returns-then-not-moves_boxes-clause-boxes
returns-then-not-moves_boxes-clause-boxes c =
    let scene = c.args.scene.now in
    let still : moves_boxes (slice_get (types_of scene) c.args.target.node) ≡ false = search rules in
    c.requires.boxes
    ∙ (answer-rows scene c.args.world.now c.args.target c.args.value.now still
    ∙ ap (λ (u : WorldData). rows_of scene u.fields) (sym c.in_ok-reply_to.ensures.world))

pub returns-clause-boxes : goal.returns-clause-boxes
returns-clause-boxes c =
    let scene = c.args.scene.now in
    let w = c.args.world.now in
    let state : List Fields = c.as_slice.result.now in
    let is : state ≡ (answer (shapes_of scene) w c.args.target c.args.value.now).fields =
    c.as_slice.ensures ∙ ap (λ (u : WorldData). u.fields) c.in_ok-reply_to.ensures.world in
    let same : IsSameBut c.args.target.node w.fields state =
    λ k n. answer-same (shapes_of scene) w c.args.target c.args.value.now k n ∙ ap (λ (fs : List Fields). slice_get fs k) (sym is) in
    c.renew.ensures w.fields c.requires.boxes same ∙ ap (rows_of scene) c.as_slice.ensures
