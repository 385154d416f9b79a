use Rattle.share_rehearsal.specs.Log.{ending_text}
use Rattle.share_rehearsal.proofs.Endings.{running-told}
use Rattle.share_rehearsal.proofs.ending.push_running.Goals as goal

pub returns : goal.returns
unfolding ending_text
returns g c =
    running-told c.args.number c.args.viewer.now c.args.viewer.now.state.view c.applied.result c.boot.result c.args.out.now.items c.push_place.new.out.items c.push_boot.new.out.items c.push_texts.new.out.items c.push_texts.result
    c.requires c.applied.ensures c.boot.ensures c.in_ok-push_place.ensures c.in_ok-push_boot.ensures c.push_texts.ensures
