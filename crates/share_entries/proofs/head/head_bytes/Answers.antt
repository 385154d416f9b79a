use Rattle.std.proofs.Common.{◌≡◌, List, ℕ, length, ap, ◌∙◌, eq-eqb, rules, arith}
use Rattle.std.proofs.lemmas.Grind.{common_steps}
use Rattle.byte_codec.proofs.Laws.{and_true}
use Rattle.share_entries.specs.Head.{head_fields, head_text, head_in}
use Rattle.share_entries.proofs.HeadLaws.{head_again}
use Rattle.share_entries.proofs.head.head_bytes.Goals as goal

pub returns-clause-again : goal.returns-clause-again
unfolding head_fields
returns-clause-again c =
    let h = c.args.head.now in
    let text : c.extend_from_slice.new.self.items ≡ head_text h = first_of (search rules, grind (arith, common_steps)) in
    let mark : length h.mark ≡ 32 = search rules in
    let run : length h.run ≡ 16 = search rules in
    ap (λ (b : List ℕ). head_in b) text
    ∙ head_again h (and_true _ _ (and_true _ _ c.requires (eq-eqb (length h.mark) 32 mark)) (eq-eqb (length h.run) 16 run))
