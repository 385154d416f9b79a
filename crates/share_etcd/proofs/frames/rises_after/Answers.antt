use Rattle.std.proofs.Common.{Bool, map}
use Rattle.share_etcd.specs.Contents.{rises_after}
use Rattle.share_etcd.specs.Views.{frame_view}
use Rattle.share_etcd.proofs.FrameLoops.{rise_stops, rise_goes_on, rise_ends}
use Rattle.share_etcd.proofs.frames.rises_after.Goals as goal

pub returns-then-frame-last : goal.returns-then-frame-last
returns-then-frame-last c =
    let total : Bool = rises_after c.args.before (map frame_view c.args.frames.now) in
    rise_stops frame_view c.args.frames.now c.loop-frame.frame-index c.loop-frame.last total c.loop-frame.invariant c.frame-item.result c.loop-frame-test.true c.frame-item.is c.if-frame-last.true

pub loop-frame-preserved : goal.loop-frame-preserved
loop-frame-preserved c =
    let total : Bool = rises_after c.args.before (map frame_view c.args.frames.now) in
    rise_goes_on frame_view c.args.frames.now c.loop-frame.frame-index c.loop-frame.last total c.loop-frame.invariant c.frame-item.result c.loop-frame-test.true c.frame-item.is c.if-frame-last.false

pub returns : goal.returns
returns c =
    let total : Bool = rises_after c.args.before (map frame_view c.args.frames.now) in
    rise_ends frame_view c.args.frames.now c.loop-frame.frame-index c.loop-frame.last total c.loop-frame.invariant c.loop-frame-test.false
