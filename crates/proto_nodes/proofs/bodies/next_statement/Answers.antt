use Rattle.std.proofs.Common.{◌∙◌, ◌∷◌, ap, sym, inr}
use Rattle.proto_parts.specs.Settled.{doing}
use Rattle.proto_meaning.specs.Flat.{note_route}
use Rattle.proto_nodes.specs.Shown.{shown}
use Rattle.proto_nodes.specs.Does.{after, body_comes, first_of, leaves}
use Rattle.proto_nodes.proofs.Left.{body-done, body-goes, body-node, body-route, body-wrong}
use Rattle.proto_nodes.proofs.NodeSteps.{goes-as}
use Rattle.proto_nodes.proofs.bodies.next_statement.Goals as goal

pub returns-in_default-clause-goes : goal.returns-in_default-clause-goes
returns-in_default-clause-goes c =
    λ ps. goes-as ps (body_comes ps c.args.body.around.value c.args.body.rest.now (first_of c.args.body.first) (shown c.args.walker.now)) (leaves c.into_inner.result (first_of c.args.body.first) (shown c.args.walker.now)) c.leave.result (shown c.leave.new.walker)
    (body-done ps c.args.body.around.value c.args.body.rest.now (first_of c.args.body.first) (shown c.args.walker.now) c.in_default.ensures
    ∙ ap (λ a. leaves a (first_of c.args.body.first) (shown c.args.walker.now)) (sym c.into_inner.ensures))
    (c.leave.ensures.goes ps)

pub returns-in-Node-clause-goes : goal.returns-in-Node-clause-goes
returns-in-Node-clause-goes c =
    λ ps. body-goes ps c.args.body c.set_rest.new.body _ c.in-Some.rest (body_comes ps c.args.body.around.value c.args.body.rest.now (first_of c.args.body.first) (shown c.args.walker.now)) (shown c.args.walker.now) c.set_rest.ensures
    (body-node ps c.args.body.around.value c.args.body.rest.now c.in-Node.node c.in-Some.rest.now c.args.body.first (shown c.args.walker.now) (c.in-Some.ensures ∙ ap (λ x. x ∷ c.in-Some.rest.now) c.in-Node.is))

pub returns-in-Route-clause-goes : goal.returns-in-Route-clause-goes
returns-in-Route-clause-goes c =
    λ ps. goes-as ps (body_comes ps c.args.body.around.value c.args.body.rest.now (first_of c.args.body.first) (shown c.args.walker.now))
    (after (doing (note_route c.in-Route.route.now) (shown c.args.walker.now)) (λ _. body_comes ps c.set_rest.new.body.around.value c.set_rest.new.body.rest.now (first_of c.set_rest.new.body.first))) c.put_route.result (shown c.put_route.new.walker)
    (body-route ps c.args.body.around.value c.args.body.rest.now c.in-Route.route c.in-Some.rest.now c.args.body.first (shown c.args.walker.now) (c.in-Some.ensures ∙ ap (λ x. x ∷ c.in-Some.rest.now) c.in-Route.is)
    ∙ ap (λ b. after (doing (note_route c.in-Route.route.now) (shown c.args.walker.now)) (λ _. body_comes ps b.around.value b.rest.now (first_of b.first))) (sym c.set_rest.ensures))
    (c.put_route.ensures.goes ps)

pub returns-in-Wrong-clause-goes : goal.returns-in-Wrong-clause-goes
returns-in-Wrong-clause-goes c =
    λ ps. inr (body-wrong ps c.args.body.around.value c.args.body.rest.now c.in-Wrong.fault c.in-Some.rest.now c.args.body.first (shown c.args.walker.now) (c.in-Some.ensures ∙ ap (λ x. x ∷ c.in-Some.rest.now) c.in-Wrong.is))
