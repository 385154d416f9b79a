use Rattle.std.proofs.Common.{◌≡◌, map, take}
use Rattle.proto_meaning.specs.Flat.{field}
use Rattle.proto_parts.specs.Fields.{HasFields}
use Rattle.proto_parts.proofs.interface.read.Given as goal

abbrev pub invariant-loop-declaration : goal.invariant-loop-declaration
invariant-loop-declaration l = record {
  at : l.number ≡ l.declaration-index;
  reads : HasFields l.tables (map field (take l.declaration-index l.declarations));
}
