use Rattle.std.proofs.Common.{◌≡◌, ◌≤◌, ◌∙◌, map, drop, length, take, ◌++◌, ap, sym, subst, arith, take_all}
use Rattle.std.specs.Prelude.{slice_get}
use Rattle.std.proofs.lemmas.List.{take-append-le, length-map}
use Rattle.pick_core.specs.Renewal.{AreRangesOf}
use Rattle.pick_core.specs.Runs.{seen_in}
use Rattle.pick_core.specs.Tree.{IsTreeOf}
use Rattle.pick_core.specs.Sites.{renewed}
use Rattle.pick_core.proofs.Renewed.{ranges-kept, renewed-trail}
use Rattle.pick_core.proofs.Rows.{renewed-rows}
use Rattle.pick_core.proofs.cache.BoxCache.renew.Goals as goal

pub returns : goal.returns
returns c before h same =
    let scene = c.args.scene.now in
    let state = c.args.state.now in
    let old = c.self.inside.rows in
    let new = c.renew_ranges.new.rows in
    let mapped : new ≡ map (renewed scene state c.args.node) old.items = c.renew_ranges.ensures.rows ∙ ap (map (renewed scene state c.args.node)) c.as_mut_slice.ensures.value in
    let long : length new ≡ length c.as_mut_slice.result.now = ap length c.renew_ranges.ensures.rows ∙ simp length-map in
    let most : old.len ≤ length new = omega (arith, c.as_mut_slice.ensures.len) in
    let least : length new ≤ old.len = omega (arith, c.as_mut_slice.ensures.len) in
    take-append-le old.len new (drop (length new) old.items) most ∙ (take_all old.len new least ∙ (mapped ∙ renewed-rows scene before state c.args.node same old.items (c.self.view_is ∙ h)))

pub invariant_of-self : goal.invariant_of-self
invariant_of-self c =
    let scene = c.args.scene.now in
    let state = c.args.state.now in
    let old = c.self.inside.rows in
    let new = c.renew_ranges.new.rows in
    let mapped : new ≡ map (renewed scene state c.args.node) old.items = c.renew_ranges.ensures.rows ∙ ap (map (renewed scene state c.args.node)) c.as_mut_slice.ensures.value in
    let long : length new ≡ length c.as_mut_slice.result.now = ap length c.renew_ranges.ensures.rows ∙ simp length-map in
    let most : old.len ≤ length new = omega (arith, c.as_mut_slice.ensures.len) in
    let least : length new ≤ old.len = omega (arith, c.as_mut_slice.ensures.len) in
    let whole : take old.len (new ++ drop (length new) old.items) ≡ map (renewed scene state c.args.node) old.items = take-append-le old.len new (drop (length new) old.items) most ∙ (take_all old.len new least ∙ mapped) in
    let kept : take old.len (new ++ drop (length new) old.items) ≡ new = take-append-le old.len new (drop (length new) old.items) most ∙ take_all old.len new least in (
      subst (λ rows. AreRangesOf c.self.inside.ranges rows) (sym whole) (ranges-kept c.self.inside.ranges (renewed scene state c.args.node) old.items (renewed-trail scene state c.args.node) c.self.invariant.0),
      subst (λ rows. IsTreeOf c.renew_ranges.new.tree (seen_in rows)) (sym kept) c.renew_ranges.ensures.tree,
    )

pub renew_ranges-requires-clause-ranges : goal.renew_ranges-requires-clause-ranges
renew_ranges-requires-clause-ranges c k r e t =
    c.self.invariant.0 c.args.node k r (ap (λ rows. slice_get rows k) (sym c.as_mut_slice.ensures.value) ∙ e) t

pub renew_ranges-requires-clause-tree : goal.renew_ranges-requires-clause-tree
renew_ranges-requires-clause-tree c = subst (λ rows. IsTreeOf c.self.inside.tree (seen_in rows)) (sym c.as_mut_slice.ensures.value) c.self.invariant.1
