use Rattle.std.proofs.Common.{◌≡◌, rules, ap, ◌∙◌, List, ℕ, true}
use Rattle.share_session.specs.Fields.{head_codec}
use Rattle.share_session.specs.Datagram.{datagram, message_fits}
use Rattle.share_session.specs.Decoding.{decoded}
use Rattle.share_session.proofs.DatagramLaws.{datagram_again}
use Rattle.share_session.proofs.encoding.encode.Goals as goal

pub returns-clause-again : goal.returns-clause-again
unfolding head_codec
returns-clause-again c =
    let m = c.args.message.now in
    let text : c.push_rest.new.out.items ≡ datagram m = search rules in
    let fits : message_fits m ≡ true = search rules in
    ap (λ (b : List ℕ). decoded b) text ∙ datagram_again m fits
