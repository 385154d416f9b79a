use Rattle.std.proofs.Common.{◌≡◌, take}
use Rattle.std.specs.List.{fold}
use Rattle.classic_lenient.specs.Blanks.{blank}
use Rattle.classic_lenient.proofs.blanks.blank_all.Given as goal

abbrev pub invariant-loop-one : goal.invariant-loop-one
invariant-loop-one l = l.text ≡ fold blank l.fn.text (take l.one-index l.unread)
