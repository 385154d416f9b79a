use Rattle.std.proofs.Common.{◌≡◌, ◌++◌, ◌∙◌, ℕ, List, ap, drop, length, pos}
use Rattle.std.specs.Prelude.{OnOk, count_by}
use Rattle.std.specs.List.{flat_map}
use Rattle.x3d_values.specs.declared.value.Value.{Value}
use Rattle.cascade_trace.specs.declared.trace.Entry.{Entry}
use Rattle.cascade_trace.specs.Since.{takes_value}
use Rattle.cascade_trace.specs.Trace.{lines_of}
use Rattle.cascade_trace.proofs.Behind.{alike, few-behind, many-before}
use Rattle.cascade_trace.proofs.since.write_lines_at.Goals as goal

pub overflow_sub-values : goal.overflow_sub-values
overflow_sub-values g c =
    few-behind c.args.entries.now c.args.at (length c.args.values.now) c.values_of-left.result c.requires.counted
    (c.values_of-left.ensures ∙ ap (count_by takes_value) c.items_from-behind.ensures)

pub returns-clause-ok : goal.returns-clause-ok
returns-clause-ok g c =
    let before = many-before c.args.entries.now c.args.at (length c.args.values.now) c.values_of-left.result c.requires.counted
    (c.values_of-left.ensures ∙ ap (count_by takes_value) c.items_from-behind.ensures) in
    alike
    (λ (es : List Entry) (vs : List Value). OnOk c.write_lines.result (c.write_lines.new.out.items ≡ c.args.out.now.items ++ flat_map (g.W.WritesLines.text c.args.writer.now) (lines_of es 0 (pos 0) vs)))
    _ _ _ _ c.items_from-behind.ensures (c.items_from-values.ensures ∙ ap (λ (n : ℕ). drop n c.args.values.now) before) c.write_lines.ensures.ok
