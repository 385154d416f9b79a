use Rattle.std.proofs.Common.{◌≡◌, drop}
use Rattle.cascade_core.specs.Held.{after_all, refusal_in}
use Rattle.cascade_core.proofs.stage.Stage.apply_all.Given as goal

-- what the inputs that are left lead to from the stage now is what all lead to from the start
abbrev pub invariant-loop-input : goal.invariant-loop-input
invariant-loop-input g l = record {
  after : after_all l.self (drop l.input-index l.inputs) ≡ after_all l.fn.self l.inputs;
  refused : refusal_in l.self (drop l.input-index l.inputs) ≡ refusal_in l.fn.self l.inputs;
}
