use Rattle.std.proofs.Common.{◌≡◌, ◌∙◌, false, true, get_or, arith}
use Rattle.script_slots.proofs.Tables.{among-at, flag-within, unmark-one}
use Rattle.script_slots.proofs.due.unmark.Goals as goal

pub bounds-flags-script : goal.bounds-flags-script
bounds-flags-script c =
    let k = get_or c.args.scripts.now c.loop-script.script-index 0 in
    let flagged : get_or c.args.flags.now k false ≡ true = c.requires k ∙ among-at c.args.scripts.now c.loop-script.script-index 0 c.loop-script-test.true in
    omega (arith, flag-within c.args.flags.now k flagged, c.loop-script.auto.flags)

pub loop-script-preserved : goal.loop-script-preserved
loop-script-preserved c = unmark-one c.loop-script.flags c.args.scripts.now c.loop-script.script-index 0 c.loop-script-test.true c.loop-script.invariant
