use Rattle.std.proofs.Common.{◌∙◌, ◌≤◌, ap, arith, length, sym, take}
use Rattle.std.proofs.lemmas.List.{take_all}
use Rattle.std.proofs.lemmas.List.Sums.{fold_more}
use Rattle.std.specs.List.{fold}
use Rattle.app_standby.specs.Pace.{followed}
use Rattle.app_standby.proofs.pace.Pace.hear.Goals as goal

pub loop-entry-preserved : goal.loop-entry-preserved
loop-entry-preserved c =
    let l = c.loop-entry in
    let e = c.entry-item.result in
    let es = c.args.entries.now in
    c.follow.ensures ∙ ap (λ p. followed p e) l.invariant
    ∙ ap (followed (fold followed (record c.args.self.now { silent = 0 }) (take l.entry-index es))) c.entry-item.is
    ∙ sym (fold_more followed (record c.args.self.now { silent = 0 }) es l.entry-index e c.loop-entry-test.true)

pub returns : goal.returns
returns c =
    let entries = c.args.entries.now in
    let past : length entries ≤ c.loop-entry.entry-index = omega (arith, c.loop-entry-test.false) in
    c.loop-entry.invariant ∙ ap (fold followed (record c.args.self.now { silent = 0 })) (take_all _ entries past)
