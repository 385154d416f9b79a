use Rattle.std.proofs.Common.{◌≡◌, ◌^◌, List, ℕ, ltb, length, true, ap, ◌∙◌, arith, rules}
use Rattle.std.proofs.lemmas.Bool.{lt-ltb}
use Rattle.std.proofs.lemmas.Grind.{common_steps}
use Rattle.byte_codec.specs.Codec.{number_text}
use Rattle.byte_codec.proofs.Laws.{and_true}
use Rattle.share_entries.specs.Frame.{front_codec, frame_text, frame_in}
use Rattle.share_entries.proofs.FrameLaws.{frame_again}
use Rattle.share_entries.proofs.frame.frame_bytes.Goals as goal

pub returns-clause-again : goal.returns-clause-again
unfolding front_codec number_text
returns-clause-again c =
    let before = c.args.before.now in
    let first = c.args.first in
    let entries = c.args.entries.now in
    let text : c.extend_from_slice.new.self.items ≡ frame_text before first entries = first_of (search rules, grind (arith, common_steps)) in
    let count : ltb (length entries) (2 ^ 16) ≡ true = lt-ltb (length entries) (2 ^ 16) (omega (arith, c.requires)) in
    let number : ltb first (2 ^ 64) ≡ true = search rules in
    ap (λ (b : List ℕ). frame_in before first b) text
    ∙ frame_again before first entries (and_true _ _ (and_true _ _ count number) c.in_ok-push_entries.ensures.fit)
