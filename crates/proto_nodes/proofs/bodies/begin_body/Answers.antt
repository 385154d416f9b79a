use Rattle.std.proofs.Common.{◌∙◌, [], ap, sym}
use Rattle.proto_nodes.specs.Shown.{shown}
use Rattle.proto_nodes.specs.Does.{body_comes, filled_now}
use Rattle.proto_nodes.proofs.Left.{begun-state, body-begins}
use Rattle.proto_nodes.proofs.bodies.begin_body.Goals as goal

pub returns-clause-goes : goal.returns-clause-goes
returns-clause-goes c =
    λ ps. body-begins ps c.args.filling.around.value c.args.filling.rest.now (filled_now c.args.filling) (shown c.args.walker.now) (shown (record c.args.walker.now { scope = c.begin_body.new.self })) c.requires.done
    (begun-state c.args.walker.now c.begin_body.new.self c.args.filling.around.value c.deref.result.now (filled_now c.args.filling) c.begin_body.ensures.shown c.deref.ensures)
    ∙ ap (λ xs. body_comes ps c.args.filling.around.value xs [] (shown (record c.args.walker.now { scope = c.begin_body.new.self }))) (sym (c.as_slice.ensures ∙ ap (λ a. a.proto.now.tree.now.body) c.deref.ensures))
