use Rattle.std.proofs.Common.{◌≡◌, ◌++◌, true, drop, map}
use Rattle.std.specs.List.{list_all}
use Rattle.scene_values.specs.Quantities.{is_integer, whole}
use Rattle.scene_values.proofs.grouping.wholes.Given as goal

abbrev pub invariant-loop-number : goal.invariant-loop-number
invariant-loop-number l = record {
  so_far : map whole l.numbers ≡ l.items.items ++ map whole (drop l.number-index l.numbers);
  fit : list_all is_integer (drop l.number-index l.numbers) ≡ true;
}
