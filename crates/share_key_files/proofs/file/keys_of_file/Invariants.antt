use Rattle.std.proofs.Common.{◌≡◌, ◌≤◌, ◌+◌, length}
use Rattle.std.specs.Str.Lines.{lines}
use Rattle.share_keys.specs.Table.{no_keys}
use Rattle.share_key_files.specs.Files.{keys_from}
use Rattle.share_key_files.proofs.file.keys_of_file.Given as goal

abbrev pub invariant-loop-rest : goal.invariant-loop-rest
invariant-loop-rest l = record {
  answer : keys_from 0 no_keys (lines l.bytes) ≡ keys_from l.line l.keys (lines l.rest);
  few : l.line + length l.rest ≤ length l.bytes;
}

abbrev pub decreases-loop-rest : goal.decreases-loop-rest
decreases-loop-rest l = length l.rest
