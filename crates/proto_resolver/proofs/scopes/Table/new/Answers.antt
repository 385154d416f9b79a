use Rattle.std.proofs.Common.{refl}
use Rattle.std.proofs.Math.Path.{fun_ext}
use Rattle.proto_resolver.specs.Held.{found}
use Rattle.proto_resolver.proofs.scopes.Table.new.Goals as goal

pub returns : goal.returns
unfolding found
returns c = fun_ext (λ name. rw c.new.ensures.empty refl)
