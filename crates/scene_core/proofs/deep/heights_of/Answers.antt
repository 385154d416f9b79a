use Rattle.std.proofs.Common.{rules, ◌≡◌}
use Rattle.std.specs.Cmp.{unsigned_Decides}
use Rattle.std.proofs.lemmas.Slice.Eq.{slice_eq-Decides}
use Rattle.scene_core.proofs.Heights.{tell-none, tell-more, tell-all, tell-done}
use Rattle.scene_core.proofs.deep.heights_of.Goals as goal

pub loop-level-init : goal.loop-level-init
loop-level-init c = tell-none _ _

pub loop-level-preserved : goal.loop-level-preserved
loop-level-preserved c =
    tell-more _ _ _ _ _ c.loop-level.invariant c.as_slice.ensures.value c.in_ok-higher.ensures c.loop-level-test.true

pub returns-then-eq : goal.returns-then-eq
returns-then-eq c =
    let equal = slice_eq-Decides unsigned_Decides c.in_ok-higher.higher.items c.loop-level.heights.items c.eq.result c.eq.ensures in
    let same : c.in_ok-higher.higher.items ≡ c.loop-level.heights.items = search rules in
    tell-done _ _ _ _ c.as_slice.ensures.value c.in_ok-higher.ensures same

pub returns : goal.returns
returns c = tell-all _ _ c.loop-level._level c.loop-level.invariant c.loop-level-test.false
