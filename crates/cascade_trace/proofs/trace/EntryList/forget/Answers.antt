use Rattle.std.proofs.Common.{◌∙◌, ap, List, pos}
use Rattle.cascade_trace.specs.declared.trace.Entry.{Entry}
use Rattle.cascade_trace.specs.Staying.{last_input, last_time, values_from}
use Rattle.cascade_trace.proofs.Forgets.{counted-all, lines-all, opens-all, rises-all}
use Rattle.cascade_trace.proofs.trace.EntryList.forget.Goals as goal

pub returns-clause-open : goal.returns-clause-open
returns-clause-open c =
    let k = c.args.self.now in
    let values = c.keep_values.ensures ∙ ap (λ (es : List Entry). values_from c.args.below es 0 k.values.items) c.deref.ensures.value in
    let input = c.last_moment-last.ensures.input ∙ ap (λ (es : List Entry). last_input es 0) c.deref-2.ensures.value in
    let time = c.last_moment-last.ensures.time ∙ ap (λ (es : List Entry). last_time es (pos 0)) c.deref-2.ensures.value in
    rw c.resume.ensures
    (opens-all c.args.below k.entries.items c.keep_entries.new.entries.items k.values.items c.keep_values.new.values.items c.last_moment-last.result.input c.last_moment-last.result.time
    c.keep_entries.ensures values c.requires.counted input time)

pub returns-clause-counted : goal.returns-clause-counted
returns-clause-counted c =
    let k = c.args.self.now in
    let values = c.keep_values.ensures ∙ ap (λ (es : List Entry). values_from c.args.below es 0 k.values.items) c.deref.ensures.value in
    rw c.resume.ensures (counted-all c.args.below k.entries.items c.keep_entries.new.entries.items k.values.items c.keep_values.new.values.items 0 (pos 0) c.keep_entries.ensures values c.requires.counted)

pub returns-clause-in_order : goal.returns-clause-in_order
returns-clause-in_order c =
    let input = c.last_moment-last.ensures.input ∙ ap (λ (es : List Entry). last_input es 0) c.deref-2.ensures.value in
    rw c.resume.ensures
    (λ is. rises-all c.args.below c.args.self.now.entries.items c.keep_entries.new.entries.items c.last_moment-last.result.input _ c.keep_entries.ensures input (c.requires.in_order is))

pub returns-clause-lines : goal.returns-clause-lines
returns-clause-lines c =
    let k = c.args.self.now in
    let values = c.keep_values.ensures ∙ ap (λ (es : List Entry). values_from c.args.below es 0 k.values.items) c.deref.ensures.value in
    rw c.resume.ensures (lines-all c.args.below k.entries.items c.keep_entries.new.entries.items k.values.items c.keep_values.new.values.items 0 (pos 0) c.keep_entries.ensures values c.requires.counted)
