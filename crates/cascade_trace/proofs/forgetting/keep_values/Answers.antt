use Rattle.std.proofs.Common.{◌∙◌, arith, sym, le-leb}
use Rattle.std.proofs.lemmas.Bool.{lt-leb}
use Rattle.cascade_trace.specs.Staying.{values_from}
use Rattle.cascade_trace.proofs.Shifts.{as-long, as-many-left, fewer-left, moved-on, passed-on, skipped-on, values-all}
use Rattle.cascade_trace.proofs.forgetting.keep_values.Goals as goal
use Rattle.cascade_trace.proofs.forgetting.keep_values.Goals.{then-takes_value, then-below-input, else-below-input, else-takes_value}

pub loop-entry-preserved : goal.loop-entry-preserved
loop-entry-preserved c =
    let at = c.loop-entry in
    let i = at.invariant in
    let n = at.entry-index in
    let entries = c.args.entries.now in
    let all = values_from c.args.below entries 0 c.args.values.now.items in
    let next = c.input_after-input.ensures in
    let takes = c.takes_value.ensures in
    elim c.if-takes_value.branch [
      | then-takes_value w ↦
          let up = sym takes ∙ w.if-takes_value.true in
          elim w.if-below-input.branch [
            | then-below-input u ↦
                let long = as-long c.args.below entries n at.input _ c.loop-entry-test.true at.values.items at.kept at.passed 0 all i.0 i.3 u.swap.new.self.items up u.swap.ensures.by_index.3 in
                rw (w.values-is, w.kept-is, w.passed-is, u.values-is, u.kept-is, next) (
                  moved-on c.args.below entries n at.input _ c.loop-entry-test.true at.values.items at.kept at.passed 0 all i.0 i.3 u.swap.new.self.items up
                      (le-leb c.args.below _ (rw next at u.if-below-input.true)) i.1 u.swap.ensures.by_index.3,
                  omega (arith, i.1),
                  long ∙ i.2,
                  fewer-left c.args.below entries n at.input _ c.loop-entry-test.true at.values.items at.kept at.passed 0 all i.0 i.3 up ∙ sym long,
                )
            | else-below-input u ↦
                rw (w.values-is, w.kept-is, w.passed-is, u.values-is, u.kept-is, next) (
                  passed-on c.args.below entries n at.input _ c.loop-entry-test.true at.values.items at.kept at.passed 0 all i.0 i.3 up
                      (lt-leb c.args.below _ (rw next at u.if-below-input.false)),
                  omega (arith, i.1),
                  i.2,
                  fewer-left c.args.below entries n at.input _ c.loop-entry-test.true at.values.items at.kept at.passed 0 all i.0 i.3 up,
                )
          ]
      | else-takes_value w ↦
          let gone = sym takes ∙ w.if-takes_value.false in
          rw (w.values-is, w.kept-is, w.passed-is, next) (
            skipped-on c.args.below entries n at.input _ c.loop-entry-test.true at.values.items at.kept at.passed 0 all i.0 i.3 gone,
            i.1,
            i.2,
            as-many-left c.args.below entries n at.input _ c.loop-entry-test.true at.values.items at.kept at.passed 0 all i.0 i.3 gone,
          )
    ]

pub returns : goal.returns
returns c =
    c.truncate.ensures.items
    ∙ values-all c.args.below c.args.entries.now c.loop-entry.entry-index c.loop-entry.input c.loop-entry.kept c.loop-entry.passed c.loop-entry.values.items _
    c.loop-entry-test.false c.loop-entry.invariant.0
