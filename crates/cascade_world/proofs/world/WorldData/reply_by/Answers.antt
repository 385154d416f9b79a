use Rattle.std.proofs.Common.{rules, ◌≡◌, ◌∙◌, ap, subst, true, false}
use Rattle.std.specs.Prelude.{OnOk, slice_get}
use Rattle.react_core.specs.Reaction.{is_time_sensor}
use Rattle.scene_core.specs.Places.{is_pointing}
use Rattle.scene_core.specs.Scene.{rows_at}
use Rattle.cascade_world.specs.Answers.{NodeAnswer, answered, is_script}
use Rattle.cascade_world.proofs.Shapes.{by-script, by-time, by-touch}
use Rattle.cascade_world.proofs.world.WorldData.reply_by.Goals as goal

pub returns-then-eq-clause-world : goal.returns-then-eq-clause-world
returns-then-eq-clause-world c =
    let field = slice_get (rows_at c.args.scene.now c.args.event.now.target.node) c.args.event.now.target.field in
    let is : is_time_sensor c.args.event.now.node_type ≡ true = search rules in
    c.set_sensor.ensures.world ∙ ap (answered c.args.self.now) (by-time c.args.self.now c.args.event.now.target c.args.event.now.value.now c.args.event.now.node_type field is)

pub returns-then-eq-clause-replies : goal.returns-then-eq-clause-replies
returns-then-eq-clause-replies c =
    let field = slice_get (rows_at c.args.scene.now c.args.event.now.target.node) c.args.event.now.target.field in
    let is : is_time_sensor c.args.event.now.node_type ≡ true = search rules in
    c.set_sensor.ensures.replies ∙ ap (λ (a : NodeAnswer). a.replies) (by-time c.args.self.now c.args.event.now.target c.args.event.now.value.now c.args.event.now.node_type field is)

pub returns-then-is_pointing-clause-world : goal.returns-then-is_pointing-clause-world
returns-then-is_pointing-clause-world c =
    let field = slice_get (rows_at c.args.scene.now c.args.event.now.target.node) c.args.event.now.target.field in
    let timeless : is_time_sensor c.args.event.now.node_type ≡ false = search rules in
    let is : is_pointing c.args.event.now.node_type ≡ true = search rules in
    subst (λ (a : NodeAnswer). OnOk c.touch.result (c.touch.new.self ≡ answered c.args.self.now a))
    (by-touch c.args.self.now c.args.event.now.target c.args.event.now.value.now c.args.event.now.node_type field timeless is) c.touch.ensures.world

pub returns-then-is_pointing-clause-replies : goal.returns-then-is_pointing-clause-replies
returns-then-is_pointing-clause-replies c =
    let field = slice_get (rows_at c.args.scene.now c.args.event.now.target.node) c.args.event.now.target.field in
    let timeless : is_time_sensor c.args.event.now.node_type ≡ false = search rules in
    let is : is_pointing c.args.event.now.node_type ≡ true = search rules in
    subst (λ (a : NodeAnswer). OnOk c.touch.result (c.touch.new.out.items ≡ a.replies))
    (by-touch c.args.self.now c.args.event.now.target c.args.event.now.value.now c.args.event.now.node_type field timeless is) c.touch.ensures.replies

pub returns-then-eq-2-clause-world : goal.returns-then-eq-2-clause-world
returns-then-eq-2-clause-world c =
    let field = slice_get (rows_at c.args.scene.now c.args.event.now.target.node) c.args.event.now.target.field in
    let timeless : is_time_sensor c.args.event.now.node_type ≡ false = search rules in
    let untouched : is_pointing c.args.event.now.node_type ≡ false = search rules in
    let is : is_script c.args.event.now.node_type ≡ true = search rules in
    subst (λ (a : NodeAnswer). OnOk c.set_script.result (c.set_script.new.self ≡ answered c.args.self.now a))
    (by-script c.args.self.now c.args.event.now.target c.args.event.now.value.now c.args.event.now.node_type field timeless untouched is) c.set_script.ensures.world

pub returns-then-eq-2-clause-replies : goal.returns-then-eq-2-clause-replies
returns-then-eq-2-clause-replies c =
    let field = slice_get (rows_at c.args.scene.now c.args.event.now.target.node) c.args.event.now.target.field in
    let timeless : is_time_sensor c.args.event.now.node_type ≡ false = search rules in
    let untouched : is_pointing c.args.event.now.node_type ≡ false = search rules in
    let is : is_script c.args.event.now.node_type ≡ true = search rules in
    subst (λ (a : NodeAnswer). OnOk c.set_script.result (c.set_script.new.out.items ≡ a.replies))
    (by-script c.args.self.now c.args.event.now.target c.args.event.now.value.now c.args.event.now.node_type field timeless untouched is) c.set_script.ensures.replies
