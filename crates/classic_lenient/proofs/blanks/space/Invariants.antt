use Rattle.std.proofs.Common.{◌≡◌, map, take, drop, length}
use Rattle.classic_lenient.specs.Blanks.{spaced}
use Rattle.classic_lenient.proofs.blanks.space.Given as goal

abbrev pub invariant-loop-byte : goal.invariant-loop-byte
invariant-loop-byte l = record {
  done : take l.byte-index l.bytes ≡ map spaced (take l.byte-index l.fn.bytes);
  left : drop l.byte-index l.bytes ≡ drop l.byte-index l.fn.bytes;
  long : length l.bytes ≡ length l.fn.bytes;
}
