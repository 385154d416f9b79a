use Rattle.std.proofs.Common.{◌≡◌, ◌++◌, ◌∷◌, drop, refl}
use Rattle.std.specs.List.{flat_map}
use Rattle.cascade_trace.specs.Trace.{lines_of}
use Rattle.cascade_trace.proofs.Told.{input-left, told-other, told-plain, answer-told}
use Rattle.cascade_trace.proofs.lines.write_entry.Goals as goal

pub returns-in-Input-clause-told : goal.returns-in-Input-clause-told
returns-in-Input-clause-told g c es =
    rw (c.moment_of.ensures, input-left c.args.entry es c.args.moment.now.input c.args.moment.now.time c.args.values.now c.in-Input.is) refl

pub returns-in-Other-clause-told : goal.returns-in-Other-clause-told
returns-in-Other-clause-told g c es =
    answer-told c.write_aside.result (λ left. left.now) (drop 1 c.args.values.now) _
    (λ vs. c.write_aside.new.out.items ++ flat_map (g.W.WritesLines.text c.args.writer.now) (lines_of es c.args.moment.now.input c.args.moment.now.time vs)
    ≡ c.args.out.now.items ++ flat_map (g.W.WritesLines.text c.args.writer.now) (lines_of (c.args.entry ∷ es) c.args.moment.now.input c.args.moment.now.time c.args.values.now))
    c.write_aside.ensures.ok c.write_aside.ensures.left
    (λ is. rw (is, c.head_of-head.ensures)
    (told-other (g.W.WritesLines.text c.args.writer.now) c.args.entry es c.args.moment.now.input c.args.moment.now.time c.args.values.now c.args.out.now.items c.in-Other.is))

pub returns-in_ok-write_plain-in_default : goal.returns-in_ok-write_plain-in_default
returns-in_ok-write_plain-in_default g c = record {
  told = λ es. rw (c.in_ok-write_plain-in_default.ensures.ok, c.head_of-head.ensures)
      (told-plain (g.W.WritesLines.text c.args.writer.now) c.args.entry es c.args.moment.now.input c.args.moment.now.time c.args.values.now c.args.out.now.items c.in_default.not-Input c.in_default.not-Other);
  same = c.in_ok-write_plain-in_default.ensures.same;
  kept = c.in_ok-write_plain-in_default.ensures.kept;
}
