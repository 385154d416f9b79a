use Rattle.std.proofs.Common.{◌≡◌, ◌≤ℤ◌, pos, take}
use Rattle.share_logged.specs.Following.{PartsMake}
use Rattle.share_logged.proofs.following.make_all.Given as goal

abbrev pub invariant-loop-entry : goal.invariant-loop-entry
invariant-loop-entry l = record {
  made : PartsMake l.fn.host.part (take l.entry-index l.entries) l.host.part;
  mark : l.host.mark ≡ l.fn.host.mark;
  last : l.newest ≡ l.host.part.last;
  from : pos 0 ≤ℤ l.newest;
}
