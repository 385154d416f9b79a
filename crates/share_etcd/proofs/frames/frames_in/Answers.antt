use Rattle.std.proofs.Common.{rules, ◌≡◌, ◌++◌, ◌∷◌, [], List, Option, Err, map, ap, ◌∙◌}
use Rattle.std.proofs.lemmas.List.{map-append}
use Rattle.serde_json.specs.View.{view}
use Rattle.share_etcd.specs.Contents.{FrameView, frames_in}
use Rattle.share_etcd.specs.Views.{frame_view}
use Rattle.share_etcd.proofs.FrameLoops.{frame_goes_on, frame_fails, frames_end}
use Rattle.share_etcd.proofs.frames.frames_in.Goals as goal

pub returns : goal.returns
returns c =
    let total : Option (List FrameView) = frames_in c.args.front.now (map view c.args.pairs.now) in
    frames_end c.args.front.now view c.args.pairs.now c.loop-pair.pair-index (map frame_view c.loop-pair.frames.items) total c.loop-pair.invariant c.loop-pair-test.false

pub returns-in_err-frame : goal.returns-in_err-frame
returns-in_err-frame c =
    let total : Option (List FrameView) = frames_in c.args.front.now (map view c.args.pairs.now) in
    let failed : c.from_residual.result ≡ Err c.in_err-frame.field-0.0 = search rules in
    rw failed (frame_fails c.args.front.now view c.args.pairs.now c.loop-pair.pair-index (map frame_view c.loop-pair.frames.items) total c.loop-pair.invariant c.pair-item.result c.in_err-frame.field-0.0 c.loop-pair-test.true c.pair-item.is c.in_err-frame.ensures)

pub loop-pair-preserved : goal.loop-pair-preserved
loop-pair-preserved c =
    let total : Option (List FrameView) = frames_in c.args.front.now (map view c.args.pairs.now) in
    let old = c.loop-pair.frames.items in
    let frame = c.in_ok-frame.frame in
    let pushed : map frame_view c.push.new.self.items ≡ map frame_view old ++ frame_view frame ∷ [] =
    ap (map frame_view) c.in_ok-push.ensures.items ∙ map-append frame_view old (frame ∷ []) in
    frame_goes_on c.args.front.now view c.args.pairs.now c.loop-pair.pair-index (map frame_view old) total c.loop-pair.invariant c.pair-item.result (frame_view frame) (map frame_view c.push.new.self.items) c.loop-pair-test.true c.pair-item.is pushed c.in_ok-frame.ensures
