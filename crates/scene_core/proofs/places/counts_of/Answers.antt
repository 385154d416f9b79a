use Rattle.std.proofs.Common.{rules, ◌≡◌, subst}
use Rattle.std.specs.Cmp.{unsigned_Decides}
use Rattle.std.proofs.lemmas.Slice.Eq.{slice_eq-Decides}
use Rattle.scene_core.proofs.Counts.{Count, count-none, count-more, count-all, count-done}
use Rattle.scene_core.proofs.places.counts_of.Goals as goal

pub loop-level-init : goal.loop-level-init
loop-level-init c = count-none _ _ c.in_ok-counts.ensures

pub loop-level-preserved : goal.loop-level-preserved
loop-level-preserved c = count-more _ _ _ _ _ c.loop-level.invariant c.as_slice.ensures.value c.in_ok-more.ensures

pub returns-then-eq : goal.returns-then-eq
returns-then-eq c =
    let equal = slice_eq-Decides unsigned_Decides c.in_ok-more.more.items c.loop-level.counts.items c.eq.result c.eq.ensures in
    let same : c.in_ok-more.more.items ≡ c.loop-level.counts.items = search rules in
    count-done _ _ _ _ _ c.requires c.loop-level.invariant c.as_slice.ensures.value c.in_ok-more.ensures same c.loop-level-test.true

pub returns : goal.returns
returns c =
    let last : c.loop-level._level ≡ 64 = search rules in
    count-all _ _ c.requires (subst (Count c.args.nodes.now c.loop-level.counts.items) last c.loop-level.invariant)
