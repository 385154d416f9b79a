use Rattle.std.proofs.Common.{◌≡◌, ◌++◌, take}
use Rattle.std.specs.List.{flat_map}
use Rattle.snapshot_codec.specs.Fields.{kept_text}
use Rattle.snapshot_codec.proofs.kept.push_all_kept.Given as goal

abbrev pub invariant-loop-value : goal.invariant-loop-value
invariant-loop-value l = l.out.items ≡ l.fn.out.items ++ flat_map kept_text (take l.value-index l.values)
