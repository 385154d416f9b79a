use Rattle.std.proofs.Common.{sym, ◌∙◌}
use Rattle.share_rehearsal.specs.Log.{ending_text}
use Rattle.share_rehearsal.proofs.Endings.{spoiled-told}
use Rattle.share_rehearsal.proofs.ending.push_ending.Goals as goal

pub returns-then-spoiled : goal.returns-then-spoiled
unfolding ending_text
returns-then-spoiled g c =
    spoiled-told c.args.number c.args.viewer.now c.args.viewer.now.state.view c.args.out.now.items c.push_spoiled.new.out.items c.push_spoiled.result (sym c.spoiled.ensures ∙ c.if-spoiled.true) c.push_spoiled.ensures
