use Rattle.std.proofs.Common.{ap, ◌∙◌, List, ℕ, arith}
use Rattle.share_session.specs.Decoding.{decoded}
use Rattle.share_session.proofs.DatagramLaws.{datagram_again, is_found}
use Rattle.share_session.proofs.decoding.decode.Goals as goal

pub returns-clause-found : goal.returns-clause-found
returns-clause-found c = is_found c.args.bytes.now c.message_in.result (λ i. omega (arith, c.type_inv.bytes i)) c.message_in.ensures

pub returns-clause-only : goal.returns-clause-only
returns-clause-only c = λ m fits e. c.message_in.ensures ∙ ap (λ (b : List ℕ). decoded b) e ∙ datagram_again m fits
