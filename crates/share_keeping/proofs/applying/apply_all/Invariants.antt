use Rattle.std.proofs.Common.{◌≡◌, drop}
use Rattle.share_keeping.specs.Applying.{after_entries, refusal_in}
use Rattle.share_keeping.proofs.applying.apply_all.Given as goal

-- what the entries that are left lead to from the stage now is what all lead to from the start
abbrev pub invariant-loop-entry : goal.invariant-loop-entry
invariant-loop-entry g l = record {
  after : after_entries l.stage (drop l.entry-index l.entries) ≡ after_entries l.fn.stage l.entries;
  refused : refusal_in l.stage (drop l.entry-index l.entries) ≡ refusal_in l.fn.stage l.entries;
}
