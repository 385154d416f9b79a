use Rattle.std.proofs.Common.{◌≡◌, ◌≤◌, ◌∙◌, map, drop, length, take, ◌++◌, ap, sym, subst, refl, arith, take_all}
use Rattle.std.proofs.lemmas.List.{take-append-le, length-map}
use Rattle.pick_core.specs.Sites.{fresh}
use Rattle.pick_core.specs.Renewal.{AreRangesOf}
use Rattle.pick_core.specs.Runs.{seen_in}
use Rattle.pick_core.specs.Tree.{IsTreeOf}
use Rattle.pick_core.proofs.Passing.{seen-long}
use Rattle.pick_core.proofs.TreeRuns.{tree-anew}
use Rattle.pick_core.proofs.Renewed.{ranges-kept}
use Rattle.pick_core.proofs.Rows.{fresh-rows}
use Rattle.pick_core.proofs.cache.BoxCache.renew_all.Goals as goal

pub returns : goal.returns
returns c before h =
    let scene = c.args.scene.now in
    let state = c.args.state.now in
    let old = c.self.inside.rows in
    let new = c.refresh_all.new.rows in
    let mapped : new ≡ map (fresh scene state) old.items = c.refresh_all.ensures ∙ ap (map (fresh scene state)) c.as_mut_slice.ensures.value in
    let long : length new ≡ length c.as_mut_slice.result.now = ap length c.refresh_all.ensures ∙ simp length-map in
    let most : old.len ≤ length new = omega (arith, c.as_mut_slice.ensures.len) in
    let least : length new ≤ old.len = omega (arith, c.as_mut_slice.ensures.len) in
    take-append-le old.len new (drop (length new) old.items) most ∙ (take_all old.len new least ∙ (mapped ∙ fresh-rows scene before state old.items (c.self.view_is ∙ h)))

pub invariant_of-self : goal.invariant_of-self
invariant_of-self c =
    let scene = c.args.scene.now in
    let state = c.args.state.now in
    let old = c.self.inside.rows in
    let new = c.refresh_all.new.rows in
    let mapped : new ≡ map (fresh scene state) old.items = c.refresh_all.ensures ∙ ap (map (fresh scene state)) c.as_mut_slice.ensures.value in
    let long : length new ≡ length c.as_mut_slice.result.now = ap length c.refresh_all.ensures ∙ simp length-map in
    let most : old.len ≤ length new = omega (arith, c.as_mut_slice.ensures.len) in
    let least : length new ≤ old.len = omega (arith, c.as_mut_slice.ensures.len) in
    let whole : take old.len (new ++ drop (length new) old.items) ≡ map (fresh scene state) old.items = take-append-le old.len new (drop (length new) old.items) most ∙ (take_all old.len new least ∙ mapped) in (
      subst (λ rows. AreRangesOf c.self.inside.ranges rows) (sym whole) (ranges-kept c.self.inside.ranges (fresh scene state) old.items (λ r. refl) c.self.invariant.0),
      subst (λ rows. IsTreeOf c.renew_runs.new.tree (seen_in rows)) c.as_slice.ensures.value c.renew_runs.ensures,
    )

pub renew_runs-requires : goal.renew_runs-requires
renew_runs-requires c =
    let scene = c.args.scene.now in
    let state = c.args.state.now in
    let old = c.self.inside.rows in
    let new = c.refresh_all.new.rows in
    let now = c.as_slice.result.now in
    let tree = c.self.inside.tree in
    let same : length new ≡ length c.as_mut_slice.result.now = ap length c.refresh_all.ensures ∙ simp length-map in
    let most : old.len ≤ length new = omega (arith, c.as_mut_slice.ensures.len) in
    let least : length new ≤ old.len = omega (arith, c.as_mut_slice.ensures.len) in
    let whole : take old.len (new ++ drop (length new) old.items) ≡ new = take-append-le old.len new (drop (length new) old.items) most ∙ take_all old.len new least in
    let long : length now ≡ length old.items = ap length c.as_slice.ensures.value ∙ (ap length whole ∙ (same ∙ ap length c.as_mut_slice.ensures.value)) in
    let room = c.self.invariant.1.runs.room in
    tree-anew 18446744073709551615 tree (seen_in now) (omega (arith, seen-long now, seen-long old.items)) (omega (arith, seen-long now, c.as_mut_slice.ensures.len)) c.self.invariant.1.groups
