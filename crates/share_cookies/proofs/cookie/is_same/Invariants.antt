use Rattle.std.proofs.Common.{◌≡◌, ◌≤◌, take}
use Rattle.share_cookies.proofs.cookie.is_same.Given as goal

abbrev pub invariant-loop-place : goal.invariant-loop-place
invariant-loop-place l = record {
  few : l.differences ≤ l.place;
  same : l.differences ≡ 0 → take l.place l.fn.one ≡ take l.place l.fn.other;
  other : take l.place l.fn.one ≡ take l.place l.fn.other → l.differences ≡ 0;
}
