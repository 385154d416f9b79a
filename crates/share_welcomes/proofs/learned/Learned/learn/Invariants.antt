use Rattle.std.proofs.Common.{◌≡◌, take}
use Rattle.share_welcomes.specs.Learned.{learned_more}
use Rattle.share_welcomes.proofs.learned.Learned.learn.Given as goal

abbrev pub invariant-loop-entry : goal.invariant-loop-entry
invariant-loop-entry l = l.self ≡ learned_more l.fn.self (take l.entry-index l.entries)
