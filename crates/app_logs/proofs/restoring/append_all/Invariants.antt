use Rattle.std.proofs.Common.{◌≡◌, ◌++◌, ◌≤◌, ◌⊎◌, length, take}
use Rattle.std.specs.Prelude.{IsTrue}
use Rattle.share_store.specs.OneLog.{Last}
use Rattle.app_logs.proofs.restoring.append_all.Given as goal

abbrev pub invariant-loop-frame : goal.invariant-loop-frame
invariant-loop-frame g l = record {
  within : l.stored ≤ length l.entries;
  some : l._frame ≤ l.stored ⊎ (l.stored ≡ length l.entries);
  known : IsTrue (g.L.Log.is_clean l.log) → g.L.Log.known l.log ≡ g.L.Log.known l.fn.log ++ take l.stored l.entries;
  opened : IsTrue (g.L.Log.is_open l.log);
  clean : IsTrue (g.L.Log.is_clean l.log) → IsTrue (g.L.Log.is_clean l.fn.log);
  lasts : Last (g.L.Log.may_leave l.fn.log) (g.L.Log.known l.fn.log) → IsTrue (g.L.Log.is_clean l.log) → Last (g.L.Log.may_leave l.log) (g.L.Log.known l.log);
}
