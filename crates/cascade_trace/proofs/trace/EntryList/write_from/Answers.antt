use Rattle.std.proofs.Common.{◌≡◌, ◌++◌, ◌∙◌, ◌≤◌, ℕ, List, ap, sym, subst, drop, take, length, pos, append-nil}
use Rattle.std.specs.Prelude.{OnOk, count_by}
use Rattle.std.specs.List.{flat_map}
use Rattle.x3d_values.specs.declared.value.Value.{Value}
use Rattle.cascade_trace.specs.declared.trace.Entry.{Entry}
use Rattle.cascade_trace.specs.Since.{takes_value}
use Rattle.cascade_trace.specs.Trace.{lines_of}
use Rattle.cascade_trace.proofs.Behind.{alike, inside, none-told, since}
use Rattle.cascade_trace.proofs.trace.EntryList.write_from.Goals as goal

pub returns-then-self-first-clause-ok : goal.returns-then-self-first-clause-ok
returns-then-self-first-clause-ok g c =
    sym (append-nil c.args.out.now.items)
    ∙ ap (λ (told : List ℕ). c.args.out.now.items ++ told)
    (sym (none-told (g.W.WritesLines.text c.args.writer.now) c.args.first c.requires.silent c.args.self.now.entries.items 0 c.args.self.now.input (pos 0) c.args.self.now.values.items c.if-self-first.true (c.requires.in_order c.if-not-self.false)))

pub write_lines_at-requires-clause-inside : goal.write_lines_at-requires-clause-inside
write_lines_at-requires-clause-inside g c =
    subst (λ (es : List Entry). c.in-Some.at ≤ length es) (c.deref-2.ensures.value ∙ sym c.deref-in-Some.ensures.value)
    (inside c.args.first c.deref-2.result.now c.in-Some.at c.in-Some.ensures)

pub returns-in-Some-clause-ok : goal.returns-in-Some-clause-ok
returns-in-Some-clause-ok g c =
    let here = rw c.deref-2.ensures.value at c.in-Some.ensures in
    subst (λ (told : List ℕ). OnOk c.write_lines_at.result (c.write_lines_at.new.out.items ≡ c.args.out.now.items ++ told))
    (sym (since (g.W.WritesLines.text c.args.writer.now) c.args.first c.requires.silent c.args.self.now.entries.items c.in-Some.at 0 c.args.self.now.input (pos 0) c.args.self.now.values.items here (c.requires.in_order c.if-not-self.false)))
    (alike
    (λ (es : List Entry) (vs : List Value). OnOk c.write_lines_at.result (c.write_lines_at.new.out.items ≡ c.args.out.now.items ++ flat_map (g.W.WritesLines.text c.args.writer.now) (lines_of (drop c.in-Some.at es) 0 (pos 0) (drop (count_by takes_value (take c.in-Some.at es)) vs))))
    _ _ _ _ c.deref-in-Some.ensures.value c.deref-in-Some-2.ensures.value c.write_lines_at.ensures.ok)
