use Rattle.std.proofs.Common.{◌≡◌, None, sym, refl, ◌∙◌}
use Rattle.std.proofs.lemmas.Option.{none-some}
use Rattle.std.specs.BTreeMap.{get_by}
use Rattle.std.specs.Ordering.{nat_cmp}
use Rattle.route_core.specs.Named.{AreTables, table_at}
use Rattle.route_core.proofs.named.RowTables.new.Goals as goal

pub returns : goal.returns
unfolding AreTables table_at
returns c = λ scene node table e.
    let none : get_by (nat_cmp node) c.new.result ≡ None = rw c.new.ensures.empty refl in
    absurd (none-some table (sym none ∙ e))
