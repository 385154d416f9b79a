use Rattle.std.proofs.Common.{refl}
use Rattle.std.proofs.Math.Path.{fun_ext}
use Rattle.proto_resolver.specs.Held.{names_of}
use Rattle.proto_resolver.proofs.scopes.TakenNames.new.Goals as goal

pub returns : goal.returns
unfolding names_of
returns c = fun_ext (λ name. rw c.new.ensures.empty refl)
