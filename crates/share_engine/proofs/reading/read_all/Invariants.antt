use Rattle.std.proofs.Common.{◌≡◌, ℕ, ◌-◌, ◌^◌, List, length}
use Rattle.share_entries.specs.declared.start.Start.{Start}
use Rattle.share_store.specs.OneLog.{Begins}
use Rattle.share_etcd.specs.Keys.{text_of}
use Rattle.share_engine.specs.Keys.{Held, HasFrom, Always, IsKept}
use Rattle.share_engine.proofs.reading.read_all.Given as goal

abbrev pub invariant-reading : goal.invariant-reading
invariant-reading g l = record {
  start : l.known.start ≡ l.initial.known.start;
  longer : Begins l.initial.known.entries l.known.entries;
  stays : (run : List ℕ) (start : Start) (k : Held) → IsKept (text_of l.name) run start (g.E.Engine.told l.initial.engine) k
      → IsKept (text_of l.name) run start (g.E.Engine.told l.engine) k;
  has : (run : List ℕ) → Always (text_of l.name) run (g.E.Engine.told l.initial.engine) (HasFrom run l.initial.known.start l.initial.known.entries)
      → Always (text_of l.name) run (g.E.Engine.told l.engine) (HasFrom run l.initial.known.start l.known.entries);
}

abbrev pub decreases-reading : goal.decreases-reading
decreases-reading g l = 2 ^ 64 - length l.known.entries
