use Rattle.std.proofs.Common.{subst}
use Rattle.share_pending.specs.Waiting.{IsTakeWaiting, WaitingView}
use Rattle.share_pending.specs.Written.{StaysAhead}
use Rattle.share_pending.proofs.Ahead.{take-stays}
use Rattle.share_pending.proofs.Views.{take-view, view_with}
use Rattle.share_pending.proofs.waiting.Waiting.take.Goals as goal

pub returns-clause-step : goal.returns-clause-step
returns-clause-step c =
    let i = c.self.inside in
    let mark = c.args.host.now.mark in
    let p = c.args.host.now.part in
    let q = c.take_to.new.host.part in
    let after = c.take_to.new.list.items in
    subst (λ (v : WaitingView). IsTakeWaiting mark p v c.args.read.now c.take_to.result q (view_with i.stored i.kept.items i.appending.items i.reached i.token after)) c.self.view_is
    (take-view i.stored i.kept.items i.appending.items i.reached i.token i.pending.items mark p q c.args.read.now c.take_to.result after c.take_to.ensures.step)

pub returns-clause-log : goal.returns-clause-log
returns-clause-log c =
    let i = c.self.inside in
    let mark = c.args.host.now.mark in
    let p = c.args.host.now.part in
    let q = c.take_to.new.host.part in
    let after = c.take_to.new.list.items in
    let x = view_with i.stored i.kept.items i.appending.items i.reached i.token after in
    subst (λ (v : WaitingView). StaysAhead p v q x) c.self.view_is
    (take-stays mark p q (view_with i.stored i.kept.items i.appending.items i.reached i.token i.pending.items) x c.args.read.now c.take_to.result
    (take-view i.stored i.kept.items i.appending.items i.reached i.token i.pending.items mark p q c.args.read.now c.take_to.result after c.take_to.ensures.step))
