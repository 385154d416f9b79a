use Rattle.std.proofs.Common.{◌≡◌, ◌∙◌, ℕ, Err, rules, subst, sym}
use Rattle.proto_parts.specs.Settled.{doing}
use Rattle.proto_meaning.specs.trees.Meaning.{node}
use Rattle.proto_nodes.specs.Shown.{shown}
use Rattle.proto_nodes.specs.Frames.{Ends, all_comes, task_comes}
use Rattle.proto_nodes.proofs.Waiting.{ends-as, no-frames}
use Rattle.proto_nodes.proofs.nodes.put_node.Goals as goal

pub run-number-requires-clause-machine : goal.run-number-requires-clause-machine
run-number-requires-clause-machine c = record { walker = c.in_ok-task.ensures.walker; frames = c.requires.machine.frames }

pub run-number-requires-clause-task : goal.run-number-requires-clause-task
run-number-requires-clause-task c = c.in_ok-task.ensures.sound

pub returns-in_err-task-clause-goes : goal.returns-in_err-task-clause-goes
returns-in_err-task-clause-goes c =
    let failed : c.from_residual.result ≡ Err c.in_err-task.field-0.0 = search rules in
    λ ps k. subst (λ x. Ends (λ (n : ℕ). n) (doing (node ps c.args.node.now).does (shown c.args.machine.now.walker)) x (shown c.begin.new.walker)) (sym failed) (c.in_err-task.ensures.goes ps k)

pub returns-clause-goes : goal.returns-clause-goes
returns-clause-goes c =
    λ ps k. ends-as (doing (node ps c.args.node.now).does (shown c.args.machine.now.walker)) (all_comes ps c.in_ok-task.task (record c.args.machine.now { walker = c.begin.new.walker })) c.run-number.result (shown c.run-number.new.machine.walker)
    (c.in_ok-task.ensures.goes ps k ∙ sym (no-frames ps c.args.machine.now.frames.items (task_comes ps c.in_ok-task.task (shown c.begin.new.walker)) c.requires.idle))
    (c.run-number.ensures.goes ps k)
