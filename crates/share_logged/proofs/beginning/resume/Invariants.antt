use Rattle.std.proofs.Common.{◌≡◌, ◌≤ℤ◌, pos, take}
use Rattle.x3d_values.specs.Ranges.{max_time}
use Rattle.share_law.specs.Parts.{part_of}
use Rattle.laws_hosts.specs.Log.{host_of}
use Rattle.share_logged.specs.Logged.{logged}
use Rattle.share_logged.specs.Making.{IsLogOf}
use Rattle.share_logged.proofs.beginning.resume.Given as goal

abbrev pub invariant-loop-entry : goal.invariant-loop-entry
invariant-loop-entry l = record {
  log : IsLogOf l.viewers (take l.entry-index l.entries);
  part : l.host.part ≡ part_of (host_of l.viewers (logged (take l.entry-index l.entries)) 1);
  mark : l.host.mark ≡ l.fn.mark;
  last : l.last ≡ l.host.part.last;
  from : pos 0 ≤ℤ l.last;
  most : l.last ≤ℤ pos max_time;
}
