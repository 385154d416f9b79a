use Rattle.std.proofs.Common.{◌≡◌, ℕ, ◌<◌, ◌≤◌, get_or}
use Rattle.share_turns.specs.Attendance.{last_heard}
use Rattle.share_turns.proofs.attendance.note_times.Given as goal

abbrev pub invariant-loop-who : goal.invariant-loop-who
invariant-loop-who l = record {
  done : (k : ℕ) → k < l.who → get_or l.lasts k 0 ≡ last_heard l.now (get_or l.nexts k 0) (get_or l.fn.lasts k 0);
  left : (k : ℕ) → l.who ≤ k → get_or l.lasts k 0 ≡ get_or l.fn.lasts k 0;
}
