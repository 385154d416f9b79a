use Rattle.std.proofs.Common.{◌≡◌, ◌≤◌, ◌+◌, ◌*◌, ◌++◌, take, length, true}
use Rattle.std.specs.List.{flat_map}
use Rattle.byte_codec.specs.Codec.{all_fit}
use Rattle.share_entries.specs.Entry.{entry_codec}
use Rattle.share_entries.proofs.frame.push_entries.Given as goal

-- the bytes of the entries so far
abbrev pub invariant-loop-entry : goal.invariant-loop-entry
invariant-loop-entry l = record {
  text : l.out.items ≡ l.fn.out.items ++ flat_map entry_codec.write (take l.entry-index l.entries);
  most : length l.out.items ≤ length l.fn.out.items + 67 * l.entry-index;
  fit : all_fit entry_codec (take l.entry-index l.entries) ≡ true;
}
