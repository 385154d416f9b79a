use Rattle.std.proofs.Common.{arith}
use Rattle.share_entries.proofs.HeadLaws.{parts_long}
use Rattle.share_entries.proofs.head.parts_of.Goals as goal

pub returns-clause-long : goal.returns-clause-long
returns-clause-long c = parts_long c.first_parts.result (λ r. ((r.0.0.now, (r.0.1.0, (r.0.1.1.0, (r.0.1.1.1.0.now, (r.0.1.1.1.1.0.now, r.0.1.1.1.1.1.now))))), r.1.now)) c.args.bytes.now (λ i. omega (arith, c.type_inv.bytes i)) c.first_parts.ensures.value
