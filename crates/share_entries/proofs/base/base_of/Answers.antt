use Rattle.std.proofs.Common.{ap, ◌∙◌, List, ℕ, arith}
use Rattle.share_entries.specs.Base.{base_in}
use Rattle.share_entries.proofs.BaseLaws.{base_found, base_again}
use Rattle.share_entries.proofs.base.base_of.Goals as goal

pub returns-clause-found : goal.returns-clause-found
returns-clause-found c = base_found c.args.bytes.now c.base_in.result (λ i. omega (arith, c.type_inv.bytes i)) c.base_in.ensures

pub returns-clause-only : goal.returns-clause-only
returns-clause-only c = λ b fits e. c.base_in.ensures ∙ ap (λ (z : List ℕ). base_in z) e ∙ base_again b fits
