use Rattle.std.proofs.Common.{ap, sym, subst, ◌∙◌}
use Rattle.share_law.specs.Parts.{HostPart}
use Rattle.share_pending.specs.Showing.{stored_keeping}
use Rattle.share_pending.specs.Waiting.{WaitingView}
use Rattle.share_pending.specs.Written.{StaysAhead}
use Rattle.share_pending.proofs.Ahead.{keep-stays}
use Rattle.share_pending.proofs.Views.{view_with}
use Rattle.share_pending.proofs.waiting.Waiting.drop_passed.Goals as goal

pub returns-clause-log : goal.returns-clause-log
returns-clause-log c =
    let i = c.self.inside in
    let w = view_with i.stored i.kept.items i.appending.items i.reached i.token i.pending.items in
    let p = c.args.host.now.part in
    let q = c.drop_heard.new.host.part in
    subst (λ (v : WaitingView). StaysAhead p v q v) c.self.view_is
    (subst (λ (x : HostPart). StaysAhead p w x w) (sym c.drop_heard.ensures.part) (keep-stays p w c.args.keep c.args.heard.now))

pub returns-clause-part : goal.returns-clause-part
returns-clause-part c =
    c.drop_heard.ensures.part ∙ ap (λ (v : WaitingView). stored_keeping v.stored c.args.keep c.args.heard.now c.args.host.now.part) c.self.view_is
