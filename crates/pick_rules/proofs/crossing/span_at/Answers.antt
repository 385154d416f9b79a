use Rattle.std.proofs.Common.{rules}
use Rattle.pick_rules.specs.Entry.{span_at}
use Rattle.pick_rules.proofs.crossing.span_at.Goals as goal

pub returns : goal.returns
unfolding span_at
returns c = search rules

pub returns-then-far-lt0 : goal.returns-then-far-lt0
unfolding span_at
returns-then-far-lt0 c = search rules
