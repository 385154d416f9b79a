use Rattle.std.proofs.Common.{◌+◌, Some, ap, sym, ◌∙◌, arith}
use Rattle.share_wire.specs.declared.message.Body.TheVariants.{Offer}
use Rattle.x3d_values.specs.Pointing.{PointerView}
use Rattle.share_wire.specs.Messages.{OfferView}
use Rattle.share_core.specs.declared.waiting.OfferedPoint.{OfferedPoint}
use Rattle.share_law.specs.Viewer.{viewer_resend}
use Rattle.share_core.specs.Waiting.{Offers, with_offers}
use Rattle.share_core.proofs.Queues.{length-shown, shown, shown-read, resend-packet}
use Rattle.share_core.proofs.waiting.Waiting.resend.Goals as goal

pub returns : goal.returns
returns c view =
    let i = c.self.inside in
    let o : Offers = record { who = i.who; boot = i.boot; made = i.made; waiting = shown i.covered i.made i.places } in
    let size = length-shown i.covered i.made i.places c.self.invariant.1 c.self.invariant.2 c.self.invariant.3 in
    let at = shown-read i.covered i.made i.places c.self.invariant.1 c.self.invariant.2 c.self.invariant.3 c.args.place c.index-self-self.result (omega arith) c.index-self-self.is in
    let pointer = c.new-pointer.ensures ∙ ap (λ (a : OfferedPoint). let z : PointerView = record { who = i.who; down = a.down; ray = a.ray } in z) (sym c.index-self-self.is) in
    ap (λ x. Some (Offer x)) (c.new.ensures ∙ ap (λ (p : PointerView). let z : OfferView = record { boot = i.boot; number = i.covered + c.args.place + 1; pointer = p } in z) pointer)
    ∙ (resend-packet o view c.args.place (i.covered + c.args.place + 1) c.index-self-self.result at (omega arith)
    ∙ ap (λ (q : Offers). viewer_resend q.who (with_offers q view) c.args.place) c.self.view_is)
