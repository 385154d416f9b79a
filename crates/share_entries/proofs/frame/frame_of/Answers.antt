use Rattle.std.proofs.Common.{ap, ◌∙◌, List, ℕ, subst, arith, Result}
use Rattle.x3d_lists.specs.Answers.{Gives}
use Rattle.share_entries.specs.declared.frame.FrameFault.{FrameFault}
use Rattle.share_entries.specs.declared.frame.FrameFault.TheVariants.{Memory}
use Rattle.share_entries.specs.Entry.{EntryView}
use Rattle.share_entries.specs.Frame.{frame_in}
use Rattle.share_entries.proofs.FrameLaws.{frame_found, frame_again}
use Rattle.share_entries.proofs.frame.frame_of.Goals as goal

pub returns-clause-found : goal.returns-clause-found
returns-clause-found c = frame_found c.frame_in.result (λ v. v.items) c.args.before.now c.args.first c.args.bytes.now (λ i. omega (arith, c.type_inv.bytes i)) c.frame_in.ensures

pub returns-clause-only : goal.returns-clause-only
returns-clause-only c = λ entries fits e.
    let before = c.args.before.now in
    let first = c.args.first in
    let P : Result (List EntryView) FrameFault → Type 0 = λ answer. Gives Memory (λ v. v.items) c.frame_in.result answer in
    subst P (ap (λ (b : List ℕ). frame_in before first b) e ∙ frame_again before first entries fits) c.frame_in.ensures
