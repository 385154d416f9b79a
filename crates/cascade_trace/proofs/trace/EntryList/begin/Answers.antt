use Rattle.std.proofs.Common.{◌∙◌, ap}
use Rattle.std.proofs.lemmas.Int.{to_z-of_z}
use Rattle.cascade_trace.proofs.Traces.{input-opens, input-lines}
use Rattle.cascade_trace.specs.declared.trace.Entry.{Entry}
use Rattle.cascade_trace.specs.Since.{risen}
use Rattle.cascade_trace.proofs.Behind.{in-order-next}
use Rattle.cascade_trace.proofs.trace.EntryList.begin.Goals as goal

pub returns-clause-open : goal.returns-clause-open
returns-clause-open c =
    rw (c.in_ok-push.ensures.items, c.input_entry.ensures) (simp (to_z-of_z, c.ranges.time) (input-opens c.args.self.now.entries.items c.args.self.now.values.items c.args.self.now.input c.args.self.now.time c.requires.open c.args.input c.args.time))

pub returns-clause-lines : goal.returns-clause-lines
returns-clause-lines c =
    rw (c.in_ok-push.ensures.items, c.input_entry.ensures) (simp (to_z-of_z, c.ranges.time) (input-lines c.args.self.now.entries.items c.args.self.now.values.items c.args.self.now.input c.args.self.now.time c.requires.open c.args.input c.args.time))

pub returns-clause-in_order : goal.returns-clause-in_order
returns-clause-in_order c is =
    ap (risen 0) c.in_ok-push.ensures.items
    ∙ in-order-next c.args.self.now.entries.items c.input_entry.result c.args.self.now.input c.args.input c.args.self.now.in_order c.follows-in_order.result
    c.requires.in_order (ap (λ (e : Entry). e.kind) c.input_entry.ensures) (ap (λ (e : Entry). e.input) c.input_entry.ensures) c.follows-in_order.ensures is
