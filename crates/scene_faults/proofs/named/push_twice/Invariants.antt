use Rattle.std.proofs.Common.{◌≡◌, [], ◌++◌, drop, take}
use Rattle.scene_faults.specs.Index.{AreOf}
use Rattle.scene_faults.specs.Texts.{twice}
use Rattle.scene_faults.proofs.named.push_twice.Given as goal

-- the earlier ones are in the set, and those that are left decide
abbrev pub invariant-loop-one : goal.invariant-loop-one
invariant-loop-one l =
    AreOf l.earlier (take l.one-index l.named)
    × (l.out ++ twice l.kind (take l.one-index l.named) (drop l.one-index l.named) ≡ l.fn.out ++ twice l.kind [] l.named)
