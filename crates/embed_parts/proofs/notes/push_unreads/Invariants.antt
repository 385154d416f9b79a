use Rattle.std.proofs.Common.{◌≡◌, ◌++◌, take}
use Rattle.std.specs.List.{flat_map}
use Rattle.embed_parts.specs.LeftOut.{unread_pair}
use Rattle.embed_parts.proofs.notes.push_unreads.Given as goal

abbrev pub invariant-loop-one : goal.invariant-loop-one
invariant-loop-one l = l.out.items ≡ l.fn.out.items ++ flat_map (unread_pair l.lines) (take l.one-index l.unread)
