use Rattle.std.proofs.Common.{◌≡◌, drop}
use Rattle.std.specs.List.{list_all}
use Rattle.scene_values.specs.Quantities.{fits}
use Rattle.scene_values.proofs.numerals.all_fit.Given as goal

abbrev pub invariant-loop-number : goal.invariant-loop-number
invariant-loop-number l = list_all (fits l.quantity) l.numbers ≡ list_all (fits l.quantity) (drop l.number-index l.numbers)
