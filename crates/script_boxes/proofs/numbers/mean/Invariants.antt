use Rattle.std.proofs.Common.{◌≡◌, ◌*◌, ◌^◌, take, pos, ◌+ℤ◌, neg_ℤ, ◌≤ℤ◌, fold}
use Rattle.script_boxes.proofs.numbers.mean.Given as goal

abbrev pub invariant-loop-reading : goal.invariant-loop-reading
invariant-loop-reading l = record {
  sum : l.sum ≡ fold ◌+ℤ◌ (pos 0) (take l.reading-index l.readings);
  above : neg_ℤ (pos (10 ^ 15 * l.reading-index)) ≤ℤ l.sum;
  below : l.sum ≤ℤ pos (10 ^ 15 * l.reading-index);
}
