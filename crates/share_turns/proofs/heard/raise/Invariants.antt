use Rattle.std.proofs.Common.{◌≡◌, ℕ, ◌<◌, ◌≤◌, get_or, max}
use Rattle.share_turns.proofs.heard.raise.Given as goal

abbrev pub invariant-loop-who : goal.invariant-loop-who
invariant-loop-who l = record {
  done : (k : ℕ) → k < l.who → get_or l.nexts k 0 ≡ max (get_or l.fn.nexts k 0) (get_or l.others k 0);
  left : (k : ℕ) → l.who ≤ k → get_or l.nexts k 0 ≡ get_or l.fn.nexts k 0;
}
