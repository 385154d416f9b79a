use Rattle.std.proofs.Common.{arith, sym, subst, map, take}
use Rattle.proto_meaning.specs.Flat.{field}
use Rattle.proto_parts.specs.Fields.{HasFields}
use Rattle.proto_parts.proofs.Naming.{list-length, list-more}
use Rattle.proto_parts.proofs.interface.read.Goals as goal

pub loop-declaration-preserved : goal.loop-declaration-preserved
loop-declaration-preserved c = record {
  at = omega (arith, c.loop-declaration.invariant.at);
  reads = subst (λ fs. HasFields c.add.new.self fs)
      (sym (list-more c.args.declarations.now c.loop-declaration.declaration-index c.declaration-item.result c.loop-declaration-test.true c.declaration-item.is))
      (c.in_ok-add.ensures (map field (take c.loop-declaration.declaration-index c.args.declarations.now))
      (list-length c.args.declarations.now c.loop-declaration.declaration-index c.loop-declaration.number c.loop-declaration-test.true c.loop-declaration.invariant.at)
      c.loop-declaration.invariant.reads);
}
