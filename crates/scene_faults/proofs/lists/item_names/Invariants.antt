use Rattle.std.proofs.Common.{◌≡◌, take}
use Rattle.std.specs.List.{flat_map}
use Rattle.std.specs.Option.{option_to_list}
use Rattle.scene_faults.specs.Texts.{item}
use Rattle.scene_faults.proofs.lists.item_names.Given as goal

abbrev pub invariant-loop-item : goal.invariant-loop-item
invariant-loop-item l = l.named ≡ flat_map (λ i. option_to_list (item i).named) (take l.item-index l.items)
