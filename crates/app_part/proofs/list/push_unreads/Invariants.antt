use Rattle.std.proofs.Common.{◌≡◌, ◌++◌, take}
use Rattle.std.specs.List.{flat_map}
use Rattle.app_part.specs.Told.{unread_line}
use Rattle.app_part.proofs.list.push_unreads.Given as goal

abbrev pub invariant-loop-one : goal.invariant-loop-one
invariant-loop-one l = l.out.items ≡ l.fn.out.items ++ flat_map (unread_line l.source l.lines) (take l.one-index l.unread)
