use Rattle.std.proofs.Common.{◌∙◌, ℕ, List, ap, sym, subst}
use Rattle.std.specs.Prelude.{Option}
use Rattle.share_pending.specs.Showing.{packet_bytes}
use Rattle.share_pending.specs.Waiting.{WaitingView}
use Rattle.share_pending.specs.Written.{ShowsStored}
use Rattle.share_pending.proofs.Shows.{packet-shows}
use Rattle.share_pending.proofs.Views.{view_with}
use Rattle.share_pending.proofs.waiting.Waiting.packet.Goals as goal

pub returns-clause-shown : goal.returns-clause-shown
returns-clause-shown c =
    let i = c.self.inside in
    let w = view_with i.stored i.kept.items i.appending.items i.reached i.token i.pending.items in
    let mark = c.args.host.now.mark in
    let p = c.args.host.now.part in
    subst (λ (o : Option (List ℕ)). ShowsStored mark p c.args.self.now o) (sym c.packet_of.ensures)
    (subst (λ (v : WaitingView). ShowsStored mark p v (packet_bytes mark i.stored p c.args.number)) c.self.view_is (packet-shows mark p w c.args.number))

pub returns-clause-bytes : goal.returns-clause-bytes
returns-clause-bytes c =
    c.packet_of.ensures ∙ ap (λ (v : WaitingView). packet_bytes c.args.host.now.mark v.stored c.args.host.now.part c.args.number) c.self.view_is
