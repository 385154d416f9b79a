use Rattle.std.proofs.Common.{◌≡◌, ◌++◌, take}
use Rattle.std.specs.List.{flat_map}
use Rattle.classic_tree.specs.Writing.{meta_line}
use Rattle.classic_tree.proofs.header.push_metas.Given as goal

abbrev pub invariant-loop-meta : goal.invariant-loop-meta
invariant-loop-meta l = l.out.items ≡ l.fn.out.items ++ flat_map meta_line (take l.meta-index l.metas)
