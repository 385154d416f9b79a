use Rattle.std.proofs.Common.{◌≡◌, ◌≤◌, ◌∙◌, length, refl, ap, sym, arith, rules, Some, None}
use Rattle.std.specs.Prelude.{slice_get}
use Rattle.std.proofs.lemmas.Option.{slice_get_read}
use Rattle.pick_core.specs.Runs.{seen_in}
use Rattle.pick_core.proofs.Passing.{get-seen, seen-long}
use Rattle.pick_core.proofs.TreeRuns.{round-none, round-more, round-past, round-end}
use Rattle.pick_core.proofs.runs.box_round.Goals as goal

pub loop-at-init : goal.loop-at-init
loop-at-init c = round-none (seen_in c.args.rows.now) c.args.run c.saturating_mul-at.result None (omega (arith, c.saturating_mul-at.ensures))

pub loop-at-preserved : goal.loop-at-preserved
loop-at-preserved c =
    let rows = c.args.rows.now in
    let at = c.loop-at.at in
    let row = c.index-rows-at.result in
    let read : slice_get rows at ≡ Some row = slice_get_read rows (length rows) at row refl c.loop-at-test.true (search rules) in
    let there : slice_get (seen_in rows) at ≡ Some c.seen.result = get-seen rows at row read ∙ ap Some (sym c.seen.ensures) in
    round-more (seen_in rows) c.args.run at c.loop-at.outer c.seen.result c.joined-outer.result there c.loop-at.invariant c.joined-outer.ensures.first c.joined-outer.ensures.second

pub returns : goal.returns
returns c =
    let rows = c.args.rows.now in
    let past : length (seen_in rows) ≤ c.loop-at.at = omega (arith, seen-long rows, c.loop-at-test.false) in
    round-end (seen_in rows) c.args.run c.loop-at.at c.loop-at.outer past c.loop-at.invariant

pub returns-then-at-end : goal.returns-then-at-end
returns-then-at-end c =
    round-past (seen_in c.args.rows.now) c.args.run c.loop-at.at c.loop-at.outer (omega (arith, c.saturating_mul-at.ensures, c.saturating_add-end.ensures)) c.loop-at.invariant
