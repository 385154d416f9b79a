use Rattle.std.proofs.Common.{◌≡◌, drop, map}
use Rattle.share_store.specs.OneLog.{Begins}
use Rattle.share_etcd.specs.Views.{frame_view}
use Rattle.share_engine.specs.Reading.{entries_from}
use Rattle.share_engine.proofs.known.Known.add_frames.Given as goal

-- the frames that are left add what all have beyond the known entries
abbrev pub invariant-loop-frame : goal.invariant-loop-frame
invariant-loop-frame l = record {
  start : l.self.start ≡ l.initial.self.start;
  longer : Begins l.initial.self.entries l.self.entries;
  read : entries_from l.initial.self.start l.self.entries (map frame_view (drop l.frame-index l.frames))
      ≡ entries_from l.initial.self.start l.initial.self.entries (map frame_view l.frames);
}
