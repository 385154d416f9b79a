use Rattle.std.proofs.Common.{refl}
use Rattle.std.proofs.Math.Path.{fun_ext}
use Rattle.route_core.specs.Named.{rows_in}
use Rattle.route_core.proofs.named.RowTable.new.Goals as goal

pub returns : goal.returns
unfolding rows_in
returns c = fun_ext (λ name. rw c.new.ensures.empty refl)
