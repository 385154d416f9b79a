use Rattle.std.proofs.Common.{ap, sym}
use Rattle.std.specs.List.{fold}
use Rattle.pick_core.specs.Picked.{nearer}
use Rattle.pick_core.proofs.Rows.{shown_rows-on, shown_rows-off}
use Rattle.pick_core.proofs.cache.pick_row.Goals as goal

pub returns-then-row : goal.returns-then-row
returns-then-row c =
    rw (shown_rows-on c.args.row.now c.if-row.true, ← c.as_slice.ensures.value) c.keep_nearer.ensures

pub returns-else-row : goal.returns-else-row
returns-else-row c = sym (ap (fold (nearer c.args.ray) c.args.best.now) (shown_rows-off c.args.row.now c.if-row.false))
