use Rattle.std.proofs.Common.{arith}
use Rattle.proto_meaning.specs.Flat.{field}
use Rattle.proto_parts.proofs.Naming.{twice-more}
use Rattle.proto_parts.proofs.interface.Tables.add.Goals as goal

pub returns : goal.returns
returns c =
    λ fs is reads. record {
      named = c.in_ok-new.ensures.named 0 fs (omega (arith, is)) reads.named;
      exposed = c.in_ok-add_exposed.ensures fs reads.exposed;
      twice = twice-more fs (field c.args.declaration.now) c.args.self.now.twice c.first_line-self.result c.in_ok-new.new reads.twice
          (c.in_ok-new.ensures.new 0 fs reads.named) c.first_line-self.ensures;
    }
