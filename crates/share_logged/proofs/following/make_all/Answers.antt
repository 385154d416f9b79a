use Rattle.std.proofs.Common.{rules, ◌+◌, ◌≡◌, ap, sym, subst, ◌∙◌, ◌≤ℤ◌, ℤ, pos, FitsSigned, w64}
use Rattle.std.specs.Prelude.{Err}
use Rattle.std.proofs.lemmas.Int.{to_z-of_z}
use Rattle.std.proofs.lemmas.List.{take_all}
use Rattle.share_logged.specs.Following.{PartsMake}
use Rattle.share_logged.proofs.Parts.{made-next, stops-at}
use Rattle.share_logged.proofs.Keeping.{makes-grown}
use Rattle.share_logged.proofs.Resuming.{time-range}
use Rattle.share_logged.proofs.following.make_all.Goals as goal

pub loop-entry-preserved : goal.loop-entry-preserved
loop-entry-preserved c =
    let l = c.loop-entry in
    let e = c.entry-item.result in
    let grown = makes-grown l.host.part c.make.new.host.part e.time e.source c.in_ok-make.ensures.made in
    let range = time-range c.time-newest.result c.time-newest.ensures.fits in
    let fits : FitsSigned w64 c.time-newest.result = search rules in
    let same = to_z-of_z w64 c.time-newest.result fits in
    record {
      made = made-next c.args.host.now.part c.args.entries.now l.entry-index e l.host.part c.make.new.host.part c.loop-entry-test.true c.entry-item.is l.invariant.made c.in_ok-make.ensures.made;
      mark = c.in_ok-make.ensures.mark ∙ l.invariant.mark;
      last = same ∙ c.time-newest.ensures.value ∙ sym grown.1;
      from = subst (λ (t : ℤ). pos 0 ≤ℤ t) (sym same) range.0;
    }

pub returns-in_err-make-clause-why : goal.returns-in_err-make-clause-why
returns-in_err-make-clause-why c =
    let l = c.loop-entry in
    let fault = c.in_err-make.field-0.0 in
    let failed : c.from_residual.result ≡ Err fault = search rules in
    let count = ap (λ n. n + 1) c.len-number.ensures.value in
    rw failed (stops-at c.args.host.now.part c.args.entries.now l.entry-index (c.len-number.result + 1) c.entry-item.result l.host.part fault c.loop-entry-test.true c.entry-item.is
    l.invariant.made count c.in_err-make.ensures.refused)

pub returns-clause-made : goal.returns-clause-made
returns-clause-made c =
    let l = c.loop-entry in
    subst (λ es. PartsMake c.args.host.now.part es l.host.part) (take_all l.entry-index c.args.entries.now (search rules)) l.invariant.made
