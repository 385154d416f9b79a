use Rattle.std.proofs.Common.{arith}
use Rattle.std.proofs.lemmas.Option.{slice_get-get_or}
use Rattle.pick_core.specs.Sites.{renewed}
use Rattle.pick_core.proofs.Renewed.{done-none, done-more, done-inside, done-inside-all, done-outside}
use Rattle.pick_core.proofs.renewal.renew_range.Goals as goal

pub loop-at-init : goal.loop-at-init
loop-at-init c = done-none (renewed c.args.scene.now c.args.state.now c.args.node) c.args.rows.now c.args.range

pub loop-at-preserved : goal.loop-at-preserved
loop-at-preserved c =
    let f = renewed c.args.scene.now c.args.state.now c.args.node in
    let rows = c.loop-at.rows in
    let at = c.loop-at.at in
    done-more f c.args.rows.now rows c.args.range at _ c.renew_row.new.row c.loop-at.invariant c.loop-at-test.true (omega arith) (slice_get-get_or rows at _ c.loop-at-test.true) c.renew_row.ensures

pub returns : goal.returns
returns c =
    let f = renewed c.args.scene.now c.args.state.now c.args.node in
    let is = c.loop-at.invariant in
    record {
      long = is.long;
      inside = done-inside-all f c.args.rows.now c.loop-at.rows c.loop-at.at c.args.range is (omega arith);
      outside = done-outside f c.args.rows.now c.loop-at.rows c.loop-at.at c.args.range is;
    }

pub returns-then-at-range : goal.returns-then-at-range
returns-then-at-range c =
    let f = renewed c.args.scene.now c.args.state.now c.args.node in
    let is = c.loop-at.invariant in
    record {
      long = is.long;
      inside = done-inside f c.args.rows.now c.loop-at.rows c.loop-at.at c.args.range is (omega arith);
      outside = done-outside f c.args.rows.now c.loop-at.rows c.loop-at.at c.args.range is;
    }
