use Rattle.std.proofs.Common.{◌≡◌, drop, map}
use Rattle.share_etcd.specs.Contents.{rises_after}
use Rattle.share_etcd.specs.Views.{frame_view}
use Rattle.share_etcd.proofs.frames.rises_after.Given as goal

-- the frames that are left rise after the last one if all of them rise
abbrev pub invariant-loop-frame : goal.invariant-loop-frame
invariant-loop-frame l =
    rises_after l.last (map frame_view (drop l.frame-index l.frames)) ≡ rises_after l.before (map frame_view l.frames)
