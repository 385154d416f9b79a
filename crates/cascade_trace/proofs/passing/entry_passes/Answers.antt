use Rattle.std.proofs.Common.{refl, sym, ◌∙◌}
use Rattle.cascade_trace.proofs.Told.{input-left}
use Rattle.cascade_trace.proofs.Passed.{other-next, plain-next}
use Rattle.cascade_trace.proofs.passing.entry_passes.Goals as goal

pub returns-in-Input : goal.returns-in-Input
returns-in-Input g c es =
    rw (c.moment_of.ensures, input-left c.args.entry es c.args.moment.now.input c.args.moment.now.time c.args.values.now c.in-Input.is) refl

pub returns-in-Other : goal.returns-in-Other
returns-in-Other g c es =
    other-next (g.T.TestsLines.passing c.args.test.now) (λ left. left.now) c.aside_passes.result c.args.entry es c.args.moment.now.input c.args.moment.now.time c.args.values.now c.in-Other.is
    (rw (c.head_of-head.ensures) at c.aside_passes.ensures)

pub returns-then-plain_passes : goal.returns-then-plain_passes
returns-then-plain_passes g c es =
    plain-next (g.T.TestsLines.passing c.args.test.now) c.args.entry es c.args.moment.now.input c.args.moment.now.time c.args.values.now c.in_default.not-Input c.in_default.not-Other _
    (sym c.if-plain_passes.true ∙ (rw (c.head_of-head.ensures) at c.plain_passes.ensures))

pub returns-else-plain_passes : goal.returns-else-plain_passes
returns-else-plain_passes g c es =
    plain-next (g.T.TestsLines.passing c.args.test.now) c.args.entry es c.args.moment.now.input c.args.moment.now.time c.args.values.now c.in_default.not-Input c.in_default.not-Other _
    (sym c.if-plain_passes.false ∙ (rw (c.head_of-head.ensures) at c.plain_passes.ensures))
