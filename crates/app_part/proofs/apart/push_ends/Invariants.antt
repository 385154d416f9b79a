use Rattle.std.proofs.Common.{◌≡◌, ◌++◌, take}
use Rattle.std.specs.List.{flat_map}
use Rattle.app_part.specs.Apart.{if_ended}
use Rattle.app_part.proofs.apart.push_ends.Given as goal

abbrev pub invariant-loop-byte : goal.invariant-loop-byte
invariant-loop-byte l = l.lines.items ≡ l.fn.lines.items ++ flat_map (if_ended l.line) (take l.byte-index l.bytes)
