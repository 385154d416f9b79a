use Rattle.std.proofs.Common.{◌≡◌, rules, ap, subst, Some, None}
use Rattle.std.specs.Prelude.{OnOk, slice_get}
use Rattle.scene_core.specs.Scene.{types_of}
use Rattle.cascade_world.specs.Answers.{NodeAnswer, answered}
use Rattle.cascade_world.proofs.Shapes.{answer-none, answer-typed}
use Rattle.cascade_world.proofs.world.WorldData.reply_to.Goals as goal

pub returns-in_default-clause-world : goal.returns-in_default-clause-world
returns-in_default-clause-world c =
    let none : slice_get (types_of c.args.scene.now) c.args.target.node ≡ None = search rules in
    ap (answered c.args.self.now) (answer-none c.args.scene.now c.args.self.now c.args.target c.args.value.now none)

pub returns-in_default-clause-replies : goal.returns-in_default-clause-replies
returns-in_default-clause-replies c =
    let none : slice_get (types_of c.args.scene.now) c.args.target.node ≡ None = search rules in
    rw (c.requires.empty) (ap (λ (a : NodeAnswer). a.replies) (answer-none c.args.scene.now c.args.self.now c.args.target c.args.value.now none))

pub returns-clause-world : goal.returns-clause-world
returns-clause-world c =
    let some : slice_get (types_of c.args.scene.now) c.args.target.node ≡ Some c.in-Some.node_type = search rules in
    subst (λ (a : NodeAnswer). OnOk c.reply_by.result (c.reply_by.new.self ≡ answered c.args.self.now a))
    (answer-typed c.args.scene.now c.args.self.now c.args.target c.args.value.now c.in-Some.node_type some) c.reply_by.ensures.world

pub returns-clause-replies : goal.returns-clause-replies
returns-clause-replies c =
    let some : slice_get (types_of c.args.scene.now) c.args.target.node ≡ Some c.in-Some.node_type = search rules in
    subst (λ (a : NodeAnswer). OnOk c.reply_by.result (c.reply_by.new.out.items ≡ a.replies))
    (answer-typed c.args.scene.now c.args.self.now c.args.target c.args.value.now c.in-Some.node_type some) c.reply_by.ensures.replies
