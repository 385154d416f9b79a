use Rattle.std.proofs.Common.{rules}
use Rattle.share_turns.proofs.Viewing.{both_appended, text_refused}
use Rattle.share_turns.proofs.view.push_texts.Goals as goal

pub returns-in_err-texts-clause-fault : goal.returns-in_err-texts-clause-fault
returns-in_err-texts-clause-fault g c =
    let fault = text_refused c.args.viewer.now.state.view _ c.in_err-texts.ensures.refused c.in_err-texts.ensures.memory in
    search rules

pub returns-clause-ok : goal.returns-clause-ok
returns-clause-ok g c =
    both_appended c.args.viewer.now _ _ c.in_ok-texts.ensures.refused c.in_ok-texts.ensures.ok
