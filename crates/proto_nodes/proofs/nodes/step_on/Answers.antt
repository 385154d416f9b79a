use Rattle.std.proofs.Common.{◌≡◌, ◌∙◌, Err, ap, rules, subst, sym}
use Rattle.proto_nodes.specs.Frames.{StepsOn, TaskSound, all_comes}
use Rattle.proto_nodes.proofs.NodeSteps.{same-stop}
use Rattle.proto_nodes.proofs.nodes.step_on.Goals as goal

pub step-requires-clause-task : goal.step-requires-clause-task
step-requires-clause-task c = subst TaskSound (sym c.replace-begun.ensures.value) c.requires.task

pub returns-in_err-next-clause-goes : goal.returns-in_err-next-clause-goes
returns-in_err-next-clause-goes c =
    let failed : c.from_residual.result ≡ Err c.in_err-next.field-0.0 = search rules in
    λ ps k. subst (λ x. StepsOn ps (all_comes ps c.args.task.now c.args.machine.now) x c.replace-begun.new.dest c.step.new.machine) (sym failed)
    (same-stop (all_comes ps c.args.task.now c.args.machine.now) (all_comes ps c.replace-begun.result c.args.machine.now) c.in_err-next.field-0.0 (ap (λ t. all_comes ps t c.args.machine.now) (sym c.replace-begun.ensures.value)) (c.in_err-next.ensures.goes ps k))

pub returns-clause-goes : goal.returns-clause-goes
returns-clause-goes c =
    λ ps k. ap (λ t. all_comes ps t c.args.machine.now) (sym c.replace-begun.ensures.value) ∙ c.in_ok-next.ensures.goes ps k ∙ ap (λ t. all_comes ps t c.step.new.machine) (sym c.replace.ensures.after)

pub returns-clause-sound : goal.returns-clause-sound
returns-clause-sound c = subst TaskSound (sym c.replace.ensures.after) c.in_ok-next.ensures.sound
