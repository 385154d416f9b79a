use Rattle.std.proofs.Common.{◌≡◌, length, refl, subst, arith, rules, Some}
use Rattle.std.specs.Prelude.{slice_get}
use Rattle.std.proofs.lemmas.Option.{slice_get_read}
use Rattle.pick_core.specs.Runs.{seen_in}
use Rattle.pick_core.specs.Tree.{ArePassed}
use Rattle.pick_core.proofs.Passing.{picked-row, picked-next}
use Rattle.pick_core.proofs.cache.pick_next.Goals as goal

pub returns-clause-best : goal.returns-clause-best
returns-clause-best c was =
    let rows = c.args.rows.now in
    let at = c.args.at in
    let row = c.index-rows-at.result in
    let there : slice_get rows at ≡ Some row = slice_get_read rows (length rows) at row refl c.requires.inside (search rules) in
    picked-row c.args.ray rows at row c.args.best.now c.pick_row.new.best there c.requires.inside was c.pick_row.ensures

pub returns-then-many-gt0-clause-best : goal.returns-then-many-gt0-clause-best
returns-then-many-gt0-clause-best c was =
    let late = c.passed-many.ensures (seen_in c.args.rows.now) c.requires.tree in
    let here = subst (λ f. ArePassed (seen_in c.args.rows.now) c.args.at c.passed-many.result c.args.ray f) c.fraction_of.ensures late in
    picked-next c.args.ray c.args.rows.now c.args.at c.passed-many.result c.saturating_add.result c.args.best.now (omega arith) (omega arith) here was
