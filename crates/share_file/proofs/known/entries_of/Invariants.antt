use Rattle.std.proofs.Common.{◌≡◌, ◌+◌, [], drop}
use Rattle.share_entries.specs.Chain.{chain_after}
use Rattle.share_log.specs.Log.{payloads}
use Rattle.share_file.specs.Entries.{entries_from}
use Rattle.share_file.proofs.known.entries_of.Given as goal

-- the frames that are left add what all frames have beyond the known entries
abbrev pub invariant-loop-i : goal.invariant-loop-i
invariant-loop-i l = record {
  linked : l.known.chain ≡ chain_after l.start.chain l.known.entries.items;
  read : entries_from l.start l.known.entries.items (l.number + l.i) (payloads (drop l.i l.frames))
      ≡ entries_from l.start [] l.number (payloads l.frames);
}
