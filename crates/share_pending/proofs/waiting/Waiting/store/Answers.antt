use Rattle.std.proofs.Common.{Bool, ◌∙◌, ap, sym, subst}
use Rattle.share_pending.specs.Waiting.{WaitingView, is_awaited, stored_by}
use Rattle.share_pending.specs.Written.{GrowsByStored}
use Rattle.share_pending.proofs.Ahead.{stored-grows}
use Rattle.share_pending.proofs.Views.{stored-view}
use Rattle.share_pending.proofs.waiting.Waiting.store.Goals as goal

pub returns-then-is_awaited-clause-log : goal.returns-then-is_awaited-clause-log
returns-then-is_awaited-clause-log c =
    let i = c.self.inside in
    let v = c.args.self.now in
    let p = c.args.host.now.part in
    let token = c.args.token in
    let kept = c.keep_stored.new.kept.items in
    let appending = c.keep_stored.new.appending.items in
    let is = ap (λ (x : WaitingView). is_awaited x token) c.self.view_is ∙ sym c.awaits-is_awaited.ensures ∙ c.if-is_awaited.true in
    let made = stored-view i.stored i.kept.items i.appending.items i.reached i.token i.pending.items token kept appending is c.keep_stored.ensures.kept c.keep_stored.ensures.none in
    let whole = ap (λ (x : WaitingView). stored_by x token) c.self.view_is in
    subst (λ (x : WaitingView). GrowsByStored p v c.awaits-is_awaited.result x) (sym (made ∙ whole))
    (subst (λ (b : Bool). GrowsByStored p v b (stored_by v token)) (sym c.awaits-is_awaited.ensures) (stored-grows p v token))
