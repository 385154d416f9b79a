use Rattle.std.proofs.Common.{◌∙◌, sym, length}
use Rattle.cascade_trace.specs.Bits.{IsRising}
use Rattle.cascade_trace.proofs.Marks.{place-within, unmark-none, unmark-one, unmarked}
use Rattle.cascade_trace.proofs.sent.unmark.Goals as goal
use Rattle.cascade_trace.proofs.sent.unmark.Goals.{in-Some, in_default}

pub bounds-bits-place : goal.bounds-bits-place
bounds-bits-place c =
    let rising : IsRising c.args.starts.now (length c.loop-end.bits) = rw c.loop-end.auto.bits c.requires.rising in
    place-within c.args.starts.now (length c.loop-end.bits) rising _ c.in-Some.place (sym c.in-Some.ensures)

pub loop-end-preserved : goal.loop-end-preserved
loop-end-preserved c =
    let rising : IsRising c.args.starts.now (length c.loop-end.bits) = rw c.loop-end.auto.bits c.requires.rising in
    elim c.match-place_of.branch [
      | in-Some w ↦
          rw w.bits-is
          (unmark-one c.args.starts.now c.loop-end.bits c.args.ends.now c.loop-end.end-index _ w.in-Some.place c.loop-end-test.true c.loop-end.invariant (sym w.in-Some.ensures)
          (place-within c.args.starts.now (length c.loop-end.bits) rising _ w.in-Some.place (sym w.in-Some.ensures)))
      | in_default w ↦
          rw w.bits-is
          (unmark-none c.args.starts.now c.loop-end.bits c.args.ends.now c.loop-end.end-index _ c.loop-end-test.true c.loop-end.invariant (sym c.place_of.ensures ∙ w.in_default.is))
    ]

pub returns : goal.returns
returns c =
    let rising : IsRising c.args.starts.now (length c.loop-end.bits) = rw c.loop-end.auto.bits c.requires.rising in
    record { unmarked = unmarked c.args.starts.now c.loop-end.bits c.args.ends.now c.loop-end.end-index rising c.loop-end-test.false c.loop-end.invariant }
