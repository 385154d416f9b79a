use Rattle.std.proofs.Common.{◌≡◌, take}
use Rattle.std.specs.List.{flat_map}
use Rattle.app_commands.specs.Viewing.{pointed}
use Rattle.app_commands.proofs.viewing.points_of.Given as goal

abbrev pub invariant-loop-input : goal.invariant-loop-input
invariant-loop-input l = l.points.items ≡ flat_map (λ input. pointed input.cause) (take l.input-index l.inputs)
