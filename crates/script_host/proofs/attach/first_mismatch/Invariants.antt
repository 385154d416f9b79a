use Rattle.std.proofs.Common.{map}
use Rattle.script_host.specs.Attaching.{Meets}
use Rattle.script_host.specs.Hosting.{fresh_record}
use Rattle.script_host.specs.Pairs.{PairsBelow}
use Rattle.script_host.proofs.attach.first_mismatch.Given as goal

abbrev pub invariant-loop-k : goal.invariant-loop-k
invariant-loop-k g l = PairsBelow Meets l.specs (map (fresh_record g.B.Behaviour.kind_of g.B.Behaviour.numbers) l.scripts) l.k
