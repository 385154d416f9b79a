use Rattle.std.proofs.Common.{◌≡◌, ◌+◌, ◌≤◌, ◌≤ℤ◌, pos, length}
use Rattle.share_turns.proofs.Answering.{went_on}
use Rattle.share_logged.specs.Notes.{AllNumbered}
use Rattle.share_logged.proofs.Gathering.{Gathered}
use Rattle.share_logged.proofs.gather.gather.Given as goal

abbrev pub invariant-loop-datagram : goal.invariant-loop-datagram
invariant-loop-datagram g l = record {
  gathered : Gathered went_on l.fn.host.mark l.fn.clock (g.P.Port.told l.fn.port) (g.P.Port.told l.port) l.fn.host.part l.host.part l.fn.heard l.heard l._datagram l.pending.entries l.pending.notes.items;
  mark : l.host.mark ≡ l.fn.host.mark;
  time : g.P.Port.rested l.port ≡ g.P.Port.rested l.fn.port;
  failures : g.P.Port.failure_count l.port ≡ g.P.Port.failure_count l.fn.port;
  numbered : AllNumbered l.host.part l.pending.notes.items;
  last : l.pending.last ≡ l.host.part.last;
  from : pos 0 ≤ℤ l.pending.last;
  few : length l.pending.entries ≤ l._datagram + 1;
  fewer : length l.pending.notes.items ≤ l._datagram;
}
