use Rattle.std.proofs.Common.{◌≡◌, subst}
use Rattle.share_pending.specs.Showing.{stored_drop}
use Rattle.share_pending.specs.Waiting.{WaitingView}
use Rattle.share_pending.specs.Written.{StaysAhead}
use Rattle.share_pending.proofs.Ahead.{drop-stays}
use Rattle.share_pending.proofs.Views.{view_with}
use Rattle.share_pending.proofs.waiting.Waiting.drop_below.Goals as goal

pub returns-clause-log : goal.returns-clause-log
returns-clause-log c =
    let i = c.self.inside in
    let w = view_with i.stored i.kept.items i.appending.items i.reached i.token i.pending.items in
    let p = c.args.host.now.part in
    let q = c.drop_stored.new.host.part in
    subst (λ (v : WaitingView). StaysAhead p v q v) c.self.view_is (drop-stays p q w c.args.floor c.drop_stored.result c.drop_stored.ensures.step)

pub returns-clause-step : goal.returns-clause-step
returns-clause-step c =
    subst (λ (v : WaitingView). stored_drop v.stored c.args.host.now.part c.args.floor ≡ (c.drop_stored.result, c.drop_stored.new.host.part)) c.self.view_is c.drop_stored.ensures.step
