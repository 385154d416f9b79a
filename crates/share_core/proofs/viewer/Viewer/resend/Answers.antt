use Rattle.std.proofs.Common.{◌≡◌, List, ℕ, None, Some, ap, ◌∙◌, rules}
use Rattle.std.specs.Prelude.{Option, Result, Ok}
use Rattle.std.specs.Option.{option_map}
use Rattle.share_wire.specs.Datagram.{datagram}
use Rattle.share_wire.specs.Decoding.{decoded}
use Rattle.share_wire.specs.declared.fault.WireFault.{WireFault}
use Rattle.share_wire.specs.declared.message.Body.{Body}
use Rattle.share_wire.specs.declared.message.Message.{Message}
use Rattle.share_law.specs.Viewer.{viewer_resend}
use Rattle.share_core.specs.Viewer.{ViewerView, view_of}
use Rattle.share_core.proofs.viewer.Viewer.resend.Goals as goal

abbrev message_of : List ℕ → Body → Result Message WireFault
message_of mark body = Ok (record { mark = mark; body = body })

pub returns-clause-bytes : goal.returns-clause-bytes
returns-clause-bytes g c =
    let view = view_of c.self.inside.stage.held c.self.inside.window in
    ap (λ (t : List ℕ). Some t) c.encode.ensures.text
    ∙ ap (λ (b : Option Body). option_map (λ body. datagram (record { mark = c.self.inside.mark; body = body })) b) (c.in_ok-offer.ensures view)
    ∙ ap (λ (v : ViewerView). option_map (λ body. datagram (record { mark = v.mark; body = body })) (viewer_resend v.who v.state c.args.place)) c.self.view_is

pub returns-clause-again : goal.returns-clause-again
returns-clause-again g c =
    let view = view_of c.self.inside.stage.held c.self.inside.window in
    ap (λ (r : Result Message WireFault). Some r) c.encode.ensures.again
    ∙ ap (λ (b : Option Body). option_map (message_of c.self.inside.mark) b) (c.in_ok-offer.ensures view)
    ∙ ap (λ (v : ViewerView). option_map (message_of v.mark) (viewer_resend v.who v.state c.args.place)) c.self.view_is

pub returns-in_err-offer-clause-bytes : goal.returns-in_err-offer-clause-bytes
returns-in_err-offer-clause-bytes g c =
    let view = view_of c.self.inside.stage.held c.self.inside.window in
    let none : c.from_residual.result ≡ None = search rules in
    ap (λ o. option_map (λ p. p.items) o) none
    ∙ ap (λ (b : Option Body). option_map (λ body. datagram (record { mark = c.self.inside.mark; body = body })) b) (c.in_err-offer.ensures view)
    ∙ ap (λ (v : ViewerView). option_map (λ body. datagram (record { mark = v.mark; body = body })) (viewer_resend v.who v.state c.args.place)) c.self.view_is

pub returns-in_err-offer-clause-again : goal.returns-in_err-offer-clause-again
returns-in_err-offer-clause-again g c =
    let view = view_of c.self.inside.stage.held c.self.inside.window in
    let none : c.from_residual.result ≡ None = search rules in
    ap (λ o. option_map (λ p. decoded p.items) o) none
    ∙ ap (λ (b : Option Body). option_map (message_of c.self.inside.mark) b) (c.in_err-offer.ensures view)
    ∙ ap (λ (v : ViewerView). option_map (message_of v.mark) (viewer_resend v.who v.state c.args.place)) c.self.view_is
