use Rattle.std.proofs.Common.{ℕ, List, sym, subst, ◌∙◌, ap}
use Rattle.std.specs.Prelude.{Option}
use Rattle.share_pending.specs.Showing.{ack_bytes}
use Rattle.share_pending.specs.Waiting.{WaitingView}
use Rattle.share_pending.specs.Written.{ShowsStored}
use Rattle.share_pending.proofs.Shows.{ack-shows}
use Rattle.share_pending.proofs.Views.{view_with}
use Rattle.share_pending.proofs.waiting.Waiting.ack.Goals as goal

pub returns-clause-shown : goal.returns-clause-shown
returns-clause-shown c =
    let i = c.self.inside in
    let w = view_with i.stored i.kept.items i.appending.items i.reached i.token i.pending.items in
    let mark = c.args.host.now.mark in
    let p = c.args.host.now.part in
    let bytes = c.ack_for.ensures ∙ ap (λ (m : List ℕ). ack_bytes m i.kept.items c.args.who) c.mark.ensures.value in
    subst (λ (o : Option (List ℕ)). ShowsStored mark p c.args.self.now o) (sym bytes)
    (subst (λ (v : WaitingView). ShowsStored mark p v (ack_bytes mark i.kept.items c.args.who)) c.self.view_is (ack-shows mark p w c.args.who))

pub returns-clause-bytes : goal.returns-clause-bytes
returns-clause-bytes c =
    c.ack_for.ensures ∙ ap (λ (m : List ℕ). ack_bytes m c.self.inside.kept.items c.args.who) c.mark.ensures.value
    ∙ ap (λ (v : WaitingView). ack_bytes c.args.host.now.mark v.kept c.args.who) c.self.view_is
