use Rattle.std.proofs.Common.{◌≡◌, Err, refl, rules, subst, sym}
use Rattle.proto_parts.specs.Fields.{numbered}
use Rattle.proto_meaning.specs.trees.Meaning.{declares, gives}
use Rattle.proto_nodes.specs.Shown.{shown}
use Rattle.proto_nodes.specs.Does.{given_by, inside_now, open_does}
use Rattle.proto_nodes.specs.Protos.{owner_by}
use Rattle.proto_nodes.specs.Frames.{OpenGoes, item_comes}
use Rattle.proto_nodes.proofs.Given.{declared-then, goes-on-as, is-script}
use Rattle.proto_nodes.proofs.NodeSteps.{stopped}
use Rattle.proto_nodes.proofs.fields.put_declaration.Goals as goal

pub returns-in_err-field-clause-goes : goal.returns-in_err-field-clause-goes
returns-in_err-field-clause-goes c =
    let failed : c.from_residual.result ≡ Err c.in_err-field.field-0.0 = search rules in
    λ ps. subst (λ x. OpenGoes ps (item_comes ps (declares c.args.declaration.now (given_by ps c.args.given.now)) c.args.opened.now (shown c.args.walker.now)) x c.args.walker.now (record c.args.opened.now { inside = c.declare.new.inside })) (sym failed)
    (stopped (declares c.args.declaration.now (given_by ps c.args.given.now) (inside_now ps c.args.opened.now)) (open_does ps c.args.opened.now) (shown c.args.walker.now) c.in_err-field.field-0.0
    (c.in_err-field.ensures c.args.opened.now.at (owner_by ps c.args.opened.now.word c.args.opened.now.inside.owner) (λ f again i. gives c.args.declaration.now.line f again (given_by ps c.args.given.now) i) (shown c.args.walker.now)
    (is-script ps c.args.opened.now.word c.args.opened.now.inside.owner)))

pub returns-clause-goes : goal.returns-clause-goes
returns-clause-goes c =
    λ ps. goes-on-as ps (item_comes ps (declares c.args.declaration.now (given_by ps c.args.given.now)) c.args.opened.now (shown c.args.walker.now))
    (item_comes ps (λ i. gives c.args.declaration.now.line (numbered c.args.declaration.now.name c.in_ok-field.field-0.field) c.in_ok-field.field-0.twice (given_by ps c.args.given.now) i) (record c.args.opened.now { inside = c.declare.new.inside }) (shown c.args.walker.now))
    c.put_given.result c.put_given.new.walker c.put_given.new.opened
    (declared-then ps c.args.declaration.now (given_by ps c.args.given.now) c.args.opened.now c.declare.new.inside (shown c.args.walker.now) c.in_ok-field.field-0.field c.in_ok-field.field-0.field c.in_ok-field.field-0.twice c.in_ok-field.field-0.twice
    c.in_ok-field.ensures.3 refl refl
    (c.in_ok-field.ensures.0 c.args.opened.now.at (owner_by ps c.args.opened.now.word c.args.opened.now.inside.owner) (λ f again i. gives c.args.declaration.now.line f again (given_by ps c.args.given.now) i) (shown c.args.walker.now)
    (is-script ps c.args.opened.now.word c.args.opened.now.inside.owner)))
    (c.put_given.ensures.goes ps)
