use Rattle.std.proofs.Common.{◌∙◌, refl, ap, length, subst, sym, arith}
use Rattle.pick_core.proofs.Passing.{seen-tree}
use Rattle.pick_core.proofs.Renewed.{IsSoFar, so_far-none, so_far-more, so_far-all, none-left, none-there}
use Rattle.pick_core.proofs.renewal.renew_ranges.Goals as goal

pub loop-left-init : goal.loop-left-init
loop-left-init c = record {
  long = refl;
  so_far = subst (λ n. IsSoFar c.args.scene.now c.args.state.now c.args.node c.args.ranges.now.ranges.items n c.first_place-place.result c.args.rows.now c.args.rows.now) (sym (ap length c.as_slice-left.ensures.value))
      (so_far-none c.args.scene.now c.args.state.now c.args.node c.args.ranges.now.ranges.items (length c.args.ranges.now.ranges.items) c.first_place-place.result c.args.rows.now (λ k r is at. c.first_place-place.ensures k (c.requires.ranges k r is at)));
  tree = c.requires.tree;
}

pub loop-left-preserved : goal.loop-left-preserved
loop-left-preserved c =
    let is = c.loop-left.invariant in
    record {
      long = c.renew_range.ensures.long ∙ is.long;
      so_far = so_far-more c.args.scene.now c.args.state.now c.args.node c.args.ranges.now.ranges.items c.loop-left.left c.loop-left.place c.args.rows.now c.loop-left.rows c.renew_range.new.rows c.in-Some.range c.loop-left-test.true (sym c.range_at.ensures ∙ c.in-Some.is) is.so_far c.renew_range.ensures.inside c.renew_range.ensures.outside;
      tree = c.renew_runs.ensures;
    }

pub returns : goal.returns
returns c =
    let is = c.loop-left.invariant in
    record {
      rows = so_far-all c.args.scene.now c.args.state.now c.args.node c.args.ranges.now.ranges.items c.loop-left.left c.loop-left.place c.args.rows.now c.loop-left.rows is.long (none-left c.args.ranges.now.ranges.items c.loop-left.left c.loop-left.place (omega arith)) is.so_far;
      tree = is.tree;
    }

pub returns-in_default : goal.returns-in_default
returns-in_default c =
    let is = c.loop-left.invariant in
    record {
      rows = so_far-all c.args.scene.now c.args.state.now c.args.node c.args.ranges.now.ranges.items c.loop-left.left c.loop-left.place c.args.rows.now c.loop-left.rows is.long (none-there c.args.ranges.now.ranges.items c.loop-left.left c.loop-left.place (sym c.range_at.ensures ∙ c.in_default.is)) is.so_far;
      tree = is.tree;
    }

pub renew_runs-requires : goal.renew_runs-requires
renew_runs-requires c =
    let is = c.loop-left.invariant in
    seen-tree c.in-Some.range c.loop-left.tree c.loop-left.rows c.renew_range.new.rows is.tree c.renew_range.ensures.long c.renew_range.ensures.outside
