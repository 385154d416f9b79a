use Rattle.std.proofs.Common.{rules, ◌≡◌, ap, sym, subst, ◌∙◌, arith, take, length, ◌+◌, ◌≤◌, ◌≤ℤ◌, ◌^◌, ℤ, pos, FitsSigned, w64}
use Rattle.std.specs.Prelude.{Err}
use Rattle.std.proofs.lemmas.Int.{to_z-of_z}
use Rattle.std.proofs.lemmas.List.{take_all}
use Rattle.share_core.specs.Host.{HostView}
use Rattle.share_law.specs.Parts.{HostPart}
use Rattle.share_logged.specs.Making.{IsLogOf}
use Rattle.share_logged.proofs.Keeping.{makes-grown}
use Rattle.share_logged.proofs.Making.{log-none}
use Rattle.share_logged.proofs.Resuming.{entry-count, entry-made, entry-not, of-entries, part-made, time-range}
use Rattle.share_logged.proofs.beginning.resume.Goals as goal

pub loop-entry-init : goal.loop-entry-init
loop-entry-init c = record {
  log = log-none c.args.viewers;
  part = ap (λ (h : HostView). h.part) c.new-host.ensures;
  mark = ap (λ (h : HostView). h.mark) c.new-host.ensures;
  last = sym (ap (λ (h : HostView). h.part.last) c.new-host.ensures);
  from = search rules;
  most = search rules;
}

pub loop-entry-preserved : goal.loop-entry-preserved
loop-entry-preserved c =
    let l = c.loop-entry in
    let e = c.entry-item.result in
    let v = c.args.viewers in
    let es = c.args.entries.now in
    let now = of-entries v (take l.entry-index es) l.host.part l.invariant.log l.invariant.part in
    let next = entry-made v es l.entry-index e l.host.part c.make.new.host.part c.loop-entry-test.true c.entry-item.is now c.in_ok-make.ensures.made in
    let grown = makes-grown l.host.part c.make.new.host.part e.time e.source c.in_ok-make.ensures.made in
    let range = time-range c.time-last.result c.time-last.ensures.fits in
    let fits : FitsSigned w64 c.time-last.result = search rules in
    let same = to_z-of_z w64 c.time-last.result fits in
    let floor = grown.0 ∙ ap (λ (p : HostPart). p.floor) l.invariant.part in
    record {
      log = next.log;
      part = part-made v (take (l.entry-index + 1) es) c.make.new.host.part next floor;
      mark = c.in_ok-make.ensures.mark ∙ l.invariant.mark;
      last = same ∙ c.time-last.ensures.value ∙ sym grown.1;
      from = subst (λ (t : ℤ). pos 0 ≤ℤ t) (sym same) range.0;
      most = subst (λ (t : ℤ). t ≤ℤ pos (10 ^ 18)) (sym same) range.1;
    }

pub returns-in_err-make-clause-why : goal.returns-in_err-make-clause-why
returns-in_err-make-clause-why c =
    let l = c.loop-entry in
    let fault = c.in_err-make.field-0.0 in
    let failed : c.from_residual.result ≡ Err fault = search rules in
    let within : l.entry-index ≤ length c.args.entries.now = omega (arith, c.loop-entry-test.true) in
    let before = entry-count c.args.viewers c.args.entries.now l.entry-index l.host.part within l.invariant.part in
    let count = ap (λ n. n + 1) (c.len-number.ensures.value ∙ before) in
    rw failed (entry-not c.args.viewers c.args.entries.now l.entry-index (c.len-number.result + 1) c.entry-item.result l.host.part fault c.loop-entry-test.true c.entry-item.is
    l.invariant.log l.invariant.part count c.in_err-make.ensures.refused)

pub returns-clause-log : goal.returns-clause-log
returns-clause-log c =
    let l = c.loop-entry in
    subst (IsLogOf c.args.viewers) (take_all l.entry-index c.args.entries.now (search rules)) l.invariant.log
