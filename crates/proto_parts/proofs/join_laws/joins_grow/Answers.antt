use Rattle.std.proofs.Math.Path.{fun_ext}
use Rattle.proto_parts.proofs.Joining.{one-more}
use Rattle.proto_parts.proofs.join_laws.joins_grow.Goals as goal

pub returns : goal.returns
returns c = λ joins j. fun_ext (λ all. one-more joins j all)
