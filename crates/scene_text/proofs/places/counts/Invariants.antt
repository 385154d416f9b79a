use Rattle.std.proofs.Common.{◌≡◌, ℕ, ◌<◌, ◌≤◌, length, get_or, take}
use Rattle.scene_text.specs.Places.{times}
use Rattle.scene_text.proofs.places.counts.Given as goal

abbrev pub invariant-loop-node : goal.invariant-loop-node
invariant-loop-node l = record {
  all : length l.counts.items ≡ l.count;
  small : (n : ℕ) → get_or l.counts.items n 0 ≤ l.node-index;
  each : (n : ℕ) → n < l.count → get_or l.counts.items n 0 ≡ times n (take l.node-index l.nodes);
}
