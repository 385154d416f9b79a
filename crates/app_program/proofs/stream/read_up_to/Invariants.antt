use Rattle.std.proofs.Common.{◌≡◌, ◌-◌, ◌*◌, ◌≤◌, false, length}
use Rattle.std.specs.Io.KnownBytes.{Consumes}
use Rattle.app_program.proofs.stream.read_up_to.Given as goal

abbrev pub invariant-loop-part : goal.invariant-loop-part
invariant-loop-part g l = record {
  same : l.reader.reader.ghost_name ≡ l.initial.reader.reader.ghost_name;
  few : l.reader.reads ≤ l.limit;
  good : l.reader.failed ≡ false;
  more : l.reader.ended ≡ false;
  bytes : Consumes (g.R.Read.remaining l.initial.reader.reader.now) (g.R.Read.remaining l.reader.reader.now) l.bytes.items;
  long : length l.bytes.items ≤ l.reader.reads * 4096;
}

abbrev pub decreases-loop-part : goal.decreases-loop-part
decreases-loop-part g l = l.limit - l.reader.reads
