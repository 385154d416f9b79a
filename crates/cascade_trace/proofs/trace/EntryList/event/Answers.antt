use Rattle.std.proofs.Common.{◌∙◌, ap, sym}
use Rattle.cascade_trace.proofs.Traces.{plain-is, plain-opens, plain-lines, other-opens, other-lines}
use Rattle.cascade_trace.specs.declared.trace.Entry.{Entry}
use Rattle.cascade_trace.specs.Since.{risen}
use Rattle.cascade_trace.specs.Trace.{is_event}
use Rattle.cascade_trace.proofs.Behind.{in-order-on, plain-event}
use Rattle.cascade_trace.proofs.trace.EntryList.event.Goals as goal

pub returns-in-Some-clause-open : goal.returns-in-Some-clause-open
returns-in-Some-clause-open c =
    rw c.in_ok-push.ensures.items (plain-opens c.args.self.now.entries.items c.args.self.now.values.items c.args.self.now.input c.args.self.now.time c.requires.open c.args.source c.args.value.now c.in-Some.plain (plain-is c.args.source c.args.value.now c.in-Some.plain (sym c.in-Some.ensures.entry) c.in-Some.ensures.whole))

pub returns-in-Some-clause-lines : goal.returns-in-Some-clause-lines
returns-in-Some-clause-lines c =
    rw c.in_ok-push.ensures.items (plain-lines c.args.self.now.entries.items c.args.self.now.values.items c.args.self.now.input c.args.self.now.time c.requires.open c.args.source c.args.value.now c.in-Some.plain (plain-is c.args.source c.args.value.now c.in-Some.plain (sym c.in-Some.ensures.entry) c.in-Some.ensures.whole))

pub returns-clause-open : goal.returns-clause-open
returns-clause-open c =
    rw (c.in_ok-push_both.ensures.entries, c.in_ok-push_both.ensures.values, c.entry_of-other.ensures, c.in_ok-copy.ensures)
    (other-opens c.args.self.now.entries.items c.args.self.now.values.items c.args.self.now.input c.args.self.now.time c.requires.open c.args.source c.args.value.now)

pub returns-clause-lines : goal.returns-clause-lines
returns-clause-lines c =
    rw (c.in_ok-push_both.ensures.entries, c.in_ok-push_both.ensures.values, c.entry_of-other.ensures, c.in_ok-copy.ensures)
    (other-lines c.args.self.now.entries.items c.args.self.now.values.items c.args.self.now.input c.args.self.now.time c.requires.open c.args.source c.args.value.now)

pub returns-in-Some-clause-in_order : goal.returns-in-Some-clause-in_order
returns-in-Some-clause-in_order c is =
    ap (risen 0) c.in_ok-push.ensures.items
    ∙ in-order-on c.args.self.now.entries.items c.in-Some.plain c.args.self.now.input (c.requires.in_order is) (plain-event c.args.source c.args.value.now c.in-Some.plain (sym c.in-Some.ensures.entry))

pub returns-clause-in_order : goal.returns-clause-in_order
returns-clause-in_order c is =
    ap (risen 0) c.in_ok-push_both.ensures.entries
    ∙ in-order-on c.args.self.now.entries.items c.entry_of-other.result c.args.self.now.input (c.requires.in_order is) (ap (λ (e : Entry). is_event e.kind) c.entry_of-other.ensures)
