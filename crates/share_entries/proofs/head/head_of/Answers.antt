use Rattle.std.proofs.Common.{ap, ◌∙◌, List, ℕ, arith}
use Rattle.share_entries.specs.Head.{head_in}
use Rattle.share_entries.proofs.HeadLaws.{head_found, head_again}
use Rattle.share_entries.proofs.head.head_of.Goals as goal

pub returns-clause-found : goal.returns-clause-found
returns-clause-found c = head_found c.args.bytes.now c.head_in.result (λ i. omega (arith, c.type_inv.bytes i)) c.head_in.ensures

pub returns-clause-only : goal.returns-clause-only
returns-clause-only c = λ h fits e. c.head_in.ensures ∙ ap (λ (b : List ℕ). head_in b) e ∙ head_again h fits
