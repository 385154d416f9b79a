use Rattle.std.proofs.Common.{◌∙◌, ◌<◌, ◌≤◌, arith, length, le-leb}
use Rattle.std.proofs.lemmas.Bool.{lt-leb}
use Rattle.std.proofs.lemmas.List.{length-set}
use Rattle.cascade_trace.specs.Staying.{entries_from, input_after}
use Rattle.cascade_trace.proofs.Shifts.{entries-all, entry-goes, entry-stays}
use Rattle.cascade_trace.proofs.forgetting.keep_entries.Goals as goal
use Rattle.cascade_trace.proofs.forgetting.keep_entries.Goals.{then-below-input, else-below-input}

pub loop-place-preserved : goal.loop-place-preserved
loop-place-preserved c =
    let at = c.loop-place in
    let e = c.index.result.now in
    let all = entries_from c.args.below c.args.entries.now.items 0 in
    let next = c.input_after-input.ensures in
    let inside : at.place < length at.entries.items = omega (arith, c.loop-place-test.true, c.len-place-end.ensures, c.args.entries.now.ok, at.invariant.2) in
    elim c.if-below-input.branch [
      | then-below-input w ↦
          rw (w.entries-is, w.kept-is, next) (
            entry-stays c.args.below at.entries.items at.kept at.place at.input e all inside c.index.ensures at.invariant.0 at.invariant.1
                (le-leb c.args.below (input_after at.input e) (rw next at w.if-below-input.true)),
            omega (arith, at.invariant.1),
            length-set at.entries.items at.kept e ∙ at.invariant.2,
          )
      | else-below-input w ↦
          rw (w.entries-is, w.kept-is, next) (
            entry-goes c.args.below at.entries.items at.kept at.place at.input e all inside c.index.ensures at.invariant.0
                (lt-leb c.args.below (input_after at.input e) (rw next at w.if-below-input.false)),
            omega (arith, at.invariant.1),
            at.invariant.2,
          )
    ]

pub returns : goal.returns
returns c =
    let past : length c.loop-place.entries.items ≤ c.loop-place.place = omega (arith, c.loop-place-test.false, c.len-place-end.ensures, c.loop-place.invariant.2) in
    c.truncate.ensures.items
    ∙ entries-all c.args.below c.loop-place.entries.items c.loop-place.kept c.loop-place.place c.loop-place.input _ past c.loop-place.invariant.0
