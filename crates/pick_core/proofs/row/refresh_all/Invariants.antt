use Rattle.std.proofs.Common.{◌≡◌, map, take, drop, length}
use Rattle.pick_core.specs.Sites.{fresh}
use Rattle.pick_core.proofs.row.refresh_all.Given as goal

abbrev pub invariant-loop-row : goal.invariant-loop-row
invariant-loop-row l = record {
  done : take l.row-index l.rows ≡ map (fresh l.scene l.state) (take l.row-index l.fn.rows);
  left : drop l.row-index l.rows ≡ drop l.row-index l.fn.rows;
  long : length l.rows ≡ length l.fn.rows;
}
