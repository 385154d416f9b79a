use Rattle.std.proofs.Common.{◌≡◌, take}
use Rattle.std.specs.List.{flat_map}
use Rattle.std.specs.Option.{option_to_list}
use Rattle.scene_faults.specs.Texts.{statement}
use Rattle.scene_faults.proofs.lists.statement_names.Given as goal

abbrev pub invariant-loop-statement : goal.invariant-loop-statement
invariant-loop-statement l = l.named ≡ flat_map (λ s. option_to_list (statement s).named) (take l.statement-index l.statements)
