use Rattle.std.proofs.Common.{◌≡◌, take}
use Rattle.share_entries.specs.Chain.{chain_after}
use Rattle.share_entries.proofs.chain.chain_after.Given as goal

-- the chain after the entries so far
abbrev pub invariant-loop-entry : goal.invariant-loop-entry
invariant-loop-entry l = l.chain ≡ chain_after l.before (take l.entry-index l.entries)
