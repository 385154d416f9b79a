use Rattle.std.proofs.Common.{rules, FitsSigned, subst, w64}
use Rattle.std.proofs.lemmas.Int.{to_z-of_z}
use Rattle.share_pending.specs.Waiting.{IsClockWaiting, WaitingView}
use Rattle.share_pending.specs.Written.{StaysAhead}
use Rattle.share_pending.proofs.Ahead.{clock-stays}
use Rattle.share_pending.proofs.Views.{clock-view, view_with}
use Rattle.share_pending.proofs.waiting.Waiting.clock.Goals as goal

pub returns-clause-step : goal.returns-clause-step
returns-clause-step c =
    let fits : FitsSigned w64 c.args.time = search rules in
    let step = rw (to_z-of_z w64 c.args.time fits) at c.clock_to.ensures.step in
    let i = c.self.inside in
    let p = c.args.host.now.part in
    let q = c.clock_to.new.host.part in
    let after = c.clock_to.new.list.items in
    subst (λ (v : WaitingView). IsClockWaiting p v c.args.time c.clock_to.result q (view_with i.stored i.kept.items i.appending.items i.reached i.token after)) c.self.view_is
    (clock-view i.stored i.kept.items i.appending.items i.reached i.token i.pending.items p q c.args.time c.clock_to.result after step)

pub returns-clause-log : goal.returns-clause-log
returns-clause-log c =
    let fits : FitsSigned w64 c.args.time = search rules in
    let step = rw (to_z-of_z w64 c.args.time fits) at c.clock_to.ensures.step in
    let i = c.self.inside in
    let p = c.args.host.now.part in
    let q = c.clock_to.new.host.part in
    let after = c.clock_to.new.list.items in
    let x = view_with i.stored i.kept.items i.appending.items i.reached i.token after in
    subst (λ (v : WaitingView). StaysAhead p v q x) c.self.view_is
    (clock-stays p q (view_with i.stored i.kept.items i.appending.items i.reached i.token i.pending.items) x c.args.time c.clock_to.result
    (clock-view i.stored i.kept.items i.appending.items i.reached i.token i.pending.items p q c.args.time c.clock_to.result after step))
