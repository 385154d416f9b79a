use Rattle.std.proofs.Common.{◌≡◌, take, drop, length}
use Rattle.share_keys.specs.Hmac.{masked}
use Rattle.share_keys.proofs.mac.mask_all.Given as goal

abbrev pub invariant-loop-byte : goal.invariant-loop-byte
invariant-loop-byte l = record {
  done : take l.byte-index l.bytes ≡ masked l.mask (take l.byte-index l.fn.bytes);
  left : drop l.byte-index l.bytes ≡ drop l.byte-index l.fn.bytes;
  long : length l.bytes ≡ length l.fn.bytes;
}
