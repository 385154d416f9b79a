use Rattle.std.proofs.Common.{◌≡◌, drop, map}
use Rattle.serde_json.specs.View.{view}
use Rattle.share_etcd.specs.Contents.{frames_in}
use Rattle.share_etcd.specs.Views.{frame_view}
use Rattle.share_etcd.proofs.FrameLoops.{after_those}
use Rattle.share_etcd.proofs.frames.frames_in.Given as goal

-- the frames so far, and those of the pairs that are left, are all
abbrev pub invariant-loop-pair : goal.invariant-loop-pair
invariant-loop-pair l =
    after_those (map frame_view l.frames.items) (frames_in l.front (map view (drop l.pair-index l.pairs))) ≡ frames_in l.front (map view l.pairs)
