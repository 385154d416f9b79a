use Rattle.std.proofs.Common.{◌≡◌, ◌∙◌, ℕ, Err, refl, rules, subst, sym}
use Rattle.proto_nodes.specs.Shown.{shown}
use Rattle.proto_nodes.specs.Frames.{Ends, all_comes}
use Rattle.proto_nodes.proofs.NodeSteps.{same-stop}
use Rattle.proto_nodes.proofs.Waiting.{all-done, known-as}
use Rattle.proto_nodes.proofs.nodes.run.Goals as goal

pub loop-init : goal.loop-init
loop-init c = (λ ps k. refl, refl, c.requires.machine, c.requires.task)

pub returns-in-Some-clause-goes : goal.returns-in-Some-clause-goes
returns-in-Some-clause-goes c = λ ps k. sym (c.loop.invariant.0 ps k) ∙ all-done ps c.loop.task c.in-Some.number c.loop.machine c.in-Some.ensures.0 c.in-Some.ensures.1

pub step_on-requires-clause-machine : goal.step_on-requires-clause-machine
step_on-requires-clause-machine c = c.loop.invariant.2

pub step_on-requires-clause-task : goal.step_on-requires-clause-task
step_on-requires-clause-task c = c.loop.invariant.3

pub returns-in_err-step_on-clause-goes : goal.returns-in_err-step_on-clause-goes
returns-in_err-step_on-clause-goes c =
    let failed : c.from_residual.result ≡ Err c.in_err-step_on.field-0.0 = search rules in
    λ ps k. subst (λ x. Ends (λ (n : ℕ). n) (all_comes ps c.args.task.now c.args.machine.now) x (shown c.step_on.new.machine.walker)) (sym failed)
    (same-stop (all_comes ps c.args.task.now c.args.machine.now) (all_comes ps c.loop.task c.loop.machine) c.in_err-step_on.field-0.0 (sym (c.loop.invariant.0 ps k)) (c.in_err-step_on.ensures.goes ps (known-as ps c.loop.machine.protos c.args.machine.now.protos c.loop.invariant.1 k)))

pub loop-preserved : goal.loop-preserved
loop-preserved c = (
  λ ps k. sym (c.in_ok-step_on.ensures.goes ps (known-as ps c.loop.machine.protos c.args.machine.now.protos c.loop.invariant.1 k)) ∙ c.loop.invariant.0 ps k,
  c.in_ok-step_on.ensures.protos ∙ c.loop.invariant.1,
  c.in_ok-step_on.ensures.machine,
  c.in_ok-step_on.ensures.sound,
)
