use Rattle.std.proofs.Common.{◌≡◌, take}
use Rattle.std.specs.List.{fold}
use Rattle.proto_blame.specs.Blames.{with_digit}
use Rattle.proto_blame.proofs.blames.line_in.Given as goal

abbrev pub invariant-loop-digit : goal.invariant-loop-digit
invariant-loop-digit l = l.line ≡ fold with_digit 0 (take l.digit-index l.text)
