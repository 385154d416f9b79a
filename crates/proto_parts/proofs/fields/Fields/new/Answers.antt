use Rattle.std.proofs.Math.Path.{fun_ext}
use Rattle.std.proofs.Common.{refl}
use Rattle.proto_parts.specs.Fields.{fields_of}
use Rattle.proto_parts.proofs.fields.Fields.new.Goals as goal

pub returns : goal.returns
unfolding fields_of
returns c = fun_ext (λ name. rw c.new.ensures.empty refl)
