use Rattle.std.proofs.Common.{◌≡◌, take}
use Rattle.share_pending.specs.Kept.{kept_with}
use Rattle.share_pending.proofs.kept.keep_all.Given as goal

abbrev pub invariant-loop-entry : goal.invariant-loop-entry
invariant-loop-entry l = l.kept.items ≡ kept_with l.fn.kept.items (take l.entry-index l.entries)
