use Rattle.std.proofs.lemmas.Option.{slice_get-get_or}
use Rattle.share_rehearsal.specs.Calls.{seen}
use Rattle.share_rehearsal.proofs.Plays.{played-more}
use Rattle.share_rehearsal.proofs.play.play.Goals as goal

pub loop-place-preserved : goal.loop-place-preserved
loop-place-preserved g c =
    let steps = c.args.steps.now in
    let i = c.loop-place.place in
    let first = c.args.nodes.now in
    let before = c.loop-place.nodes in
    let after = c.go.new.self in
    played-more (seen first) steps i c.args.out.now.items c.loop-place.out.items c.push_line.new.out.items
    (seen before) _ c.in_ok-answer.answer (seen after)
    c.loop-place.invariant c.loop-place-test.true (slice_get-get_or steps i _ c.loop-place-test.true) c.in_ok-answer.ensures c.in_ok-push_line.ensures
