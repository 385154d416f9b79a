use Rattle.std.proofs.Common.{◌≡◌, ◌≤◌, ◌-◌, ◌++◌, IsTrue, length, take}
use Rattle.share_store.specs.OneLog.{Last}
use Rattle.embed_logs.proofs.storing.store_all.Given as goal

abbrev pub invariant-loop-done : goal.invariant-loop-done
invariant-loop-done g l = record {
  within : l.done ≤ length l.entries;
  stored : l.known.items ≡ l.fn.known.items ++ take l.done l.entries;
  taking : IsTrue (g.L.Log.is_open l.log);
  same : IsTrue (g.L.Log.is_clean l.log) → g.L.Log.known l.log ≡ l.known.items;
  clean : IsTrue (g.L.Log.is_clean l.log) → IsTrue (g.L.Log.is_clean l.fn.log);
  lasts : IsTrue (g.L.Log.is_clean l.log) → Last (g.L.Log.may_leave l.fn.log) l.fn.known.items → Last (g.L.Log.may_leave l.log) l.known.items;
}

abbrev pub decreases-loop-done : goal.decreases-loop-done
decreases-loop-done g l = length l.entries - l.done
