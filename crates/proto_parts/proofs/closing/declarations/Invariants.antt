use Rattle.std.proofs.Common.{◌≡◌, take}
use Rattle.proto_parts.specs.Inside.{declared_fields}
use Rattle.proto_parts.proofs.closing.declarations.Given as goal

abbrev pub invariant-loop-declaration : goal.invariant-loop-declaration
invariant-loop-declaration l = l.made ≡ declared_fields (take l.declaration-index l.declared)
