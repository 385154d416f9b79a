use Rattle.std.proofs.Common.{ℕ, ap, ◌∙◌, sym, subst}
use Rattle.share_core.specs.Host.{HostView}
use Rattle.share_logged.specs.Hosting.{LoggedView}
use Rattle.share_pending.specs.Waiting.{WaitingView, waiting_after}
use Rattle.share_pending.specs.Written.{IsAhead}
use Rattle.share_pending.proofs.Ahead.{begun-ahead, begun-count}
use Rattle.share_pending.proofs.beginning.begin.Goals as goal

pub returns-clause-waiting : goal.returns-clause-waiting
returns-clause-waiting c =
    let part = ap (λ (h : HostView). h.part) c.into_host-host.ensures ∙ ap (λ (h : LoggedView). h.part) c.in_ok-hosting.ensures.host in
    let count = c.len.ensures.value ∙ begun-count c.args.viewers c.args.entries.now c.into_host-host.result.part part in
    c.waiting_after-waiting.ensures ∙ ap (λ (n : ℕ). waiting_after c.args.viewers c.args.entries.now n) count

pub returns-clause-log : goal.returns-clause-log
returns-clause-log c =
    let part = ap (λ (h : HostView). h.part) c.into_host-host.ensures ∙ ap (λ (h : LoggedView). h.part) c.in_ok-hosting.ensures.host in
    let count = c.len.ensures.value ∙ begun-count c.args.viewers c.args.entries.now c.into_host-host.result.part part in
    let waiting = c.waiting_after-waiting.ensures ∙ ap (λ (n : ℕ). waiting_after c.args.viewers c.args.entries.now n) count in
    subst (λ (w : WaitingView). IsAhead c.args.viewers c.args.entries.now c.into_host-host.result.part w) (sym waiting)
    (begun-ahead c.args.viewers c.args.entries.now c.into_host-host.result.part c.in_ok-hosting.ensures.log part)
