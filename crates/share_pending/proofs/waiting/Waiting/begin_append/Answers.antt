use Rattle.std.proofs.Common.{ℕ, ◌∙◌, ap, sym, subst}
use Rattle.share_pending.specs.Waiting.{WaitingView}
use Rattle.share_pending.specs.Written.{StaysAhead}
use Rattle.share_pending.proofs.Ahead.{begun-stays}
use Rattle.share_pending.proofs.Views.{begun-view, view_with}
use Rattle.share_pending.proofs.waiting.Waiting.begin_append.Goals as goal

pub returns-then-begin_with-clause-log : goal.returns-then-begin_with-clause-log
returns-then-begin_with-clause-log c =
    let i = c.self.inside in
    let w = view_with i.stored i.kept.items i.appending.items i.reached i.token i.pending.items in
    let p = c.args.host.now.part in
    let count = c.len-self-inside.result in
    let appending = c.begin_with.new.appending.items in
    let pending = c.begin_with.new.pending.items in
    let made = begun-view i.stored i.kept.items i.appending.items i.reached i.token i.pending.items count c.begin_with.result appending pending
    c.if-begin_with.true c.begin_with.ensures.begins c.begin_with.ensures.appending c.begin_with.ensures.pending in
    let token = ap (λ (n : ℕ). view_with i.stored i.kept.items appending count n pending) c.saturating_add-self-inside.ensures in
    let new = view_with i.stored i.kept.items appending count c.saturating_add-self-inside.result pending in
    subst (λ (v : WaitingView). StaysAhead p v p new) c.self.view_is
    (subst (λ (x : WaitingView). StaysAhead p w p x) (sym (token ∙ made)) (begun-stays p w count c.len-self-inside.ensures.value))
