use Rattle.std.proofs.Common.{◌∙◌, ap, sym, length}
use Rattle.std.specs.Prelude.{count_by}
use Rattle.cascade_trace.specs.Trace.{tells_line}
use Rattle.cascade_trace.proofs.Told.{many-kept}
use Rattle.cascade_trace.proofs.trace.Trace.len.Goals as goal

pub returns : goal.returns
returns c =
    c.lines_in.ensures ∙ ap (count_by tells_line) c.deref.ensures.value ∙ sym (many-kept c.self.inside.kept c.self.invariant.0) ∙ ap length c.self.view_is
