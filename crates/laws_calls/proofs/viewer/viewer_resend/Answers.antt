use Rattle.std.proofs.Common.{◌∙◌}
use Rattle.std.specs.Option.{option_map}
use Rattle.share_wire.specs.Decoding.{decoded}
use Rattle.laws_calls.proofs.Places.{twice}
use Rattle.laws_calls.proofs.Viewers.{resend}
use Rattle.laws_calls.proofs.viewer.viewer_resend.Goals as goal

pub returns : goal.returns
returns g c =
    resend c.steps_law.ensures.calls c.args.viewer.now c.args.place (option_map (λ p. p.items) c.resend.result)
    (twice c.resend.result (λ p. p.items) decoded ∙ c.resend.ensures.again)
