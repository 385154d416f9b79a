use Rattle.std.proofs.Common.{◌≡◌, ◌≤◌, ◌+◌, length, None}
use Rattle.std.specs.Str.Lines.{lines}
use Rattle.share_key_files.specs.Files.{key_from}
use Rattle.share_key_files.proofs.file.key_of_file.Given as goal

abbrev pub invariant-loop-rest : goal.invariant-loop-rest
invariant-loop-rest l = record {
  answer : key_from 0 None (lines l.bytes) ≡ key_from l.line l.found (lines l.rest);
  few : l.line + length l.rest ≤ length l.bytes;
}

abbrev pub decreases-loop-rest : goal.decreases-loop-rest
decreases-loop-rest l = length l.rest
