use Rattle.std.proofs.Common.{◌∙◌, ◌+◌, drop, ap}
use Rattle.cascade_trace.specs.Staying.{last_input, last_time}
use Rattle.cascade_trace.proofs.Shifts.{input-all, input-next, time-all, time-next}
use Rattle.cascade_trace.proofs.forgetting.last_moment.Goals as goal

pub loop-entry-preserved : goal.loop-entry-preserved
loop-entry-preserved c = (
  ap (last_input (drop (c.loop-entry.entry-index + 1) c.args.entries.now)) c.moment_after-moment.ensures.input
      ∙ input-next c.args.entries.now c.loop-entry.entry-index c.loop-entry.moment.input _ c.loop-entry-test.true ∙ c.loop-entry.invariant.0,
  ap (last_time (drop (c.loop-entry.entry-index + 1) c.args.entries.now)) c.moment_after-moment.ensures.time
      ∙ time-next c.args.entries.now c.loop-entry.entry-index c.loop-entry.moment.time _ c.loop-entry-test.true ∙ c.loop-entry.invariant.1,
)

pub returns-clause-input : goal.returns-clause-input
returns-clause-input c = input-all c.args.entries.now c.loop-entry.entry-index c.loop-entry.moment.input c.loop-entry-test.false ∙ c.loop-entry.invariant.0

pub returns-clause-time : goal.returns-clause-time
returns-clause-time c = time-all c.args.entries.now c.loop-entry.entry-index c.loop-entry.moment.time c.loop-entry-test.false ∙ c.loop-entry.invariant.1
