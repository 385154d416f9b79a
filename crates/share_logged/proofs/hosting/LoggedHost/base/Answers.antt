use Rattle.std.proofs.Common.{rules, ◌≡◌, ap, ◌∙◌, sym, subst, is_some, FitsSigned, w64}
use Rattle.std.specs.Prelude.{None}
use Rattle.std.proofs.lemmas.Int.{to_z-of_z}
use Rattle.share_entries.specs.Base.{BaseView}
use Rattle.share_logged.specs.Bases.{base_of}
use Rattle.share_logged.specs.Hosting.{LoggedView}
use Rattle.share_logged.specs.Making.{IsOfLog}
use Rattle.share_logged.proofs.Bases.{base-from}
use Rattle.share_logged.proofs.Ranges.{host-has-base}
use Rattle.share_logged.proofs.hosting.LoggedHost.base.Goals as goal

pub returns-clause-of_log : goal.returns-clause-of_log
returns-clause-of_log c = λ run viewers entries is chain.
    let fits : FitsSigned w64 c.self.inside.last = search rules in
    let time = ap (λ (b : BaseView). b.time) c.new.ensures ∙ (to_z-of_z w64 c.self.inside.last fits ∙ c.self.invariant.0) in
    base-from run viewers entries c.self.inside.host.part c.new.result
    (ap (λ (b : BaseView). b.kept) c.new.ensures ∙ c.kept-kept.ensures.value)
    (ap (λ (b : BaseView). b.number) c.new.ensures ∙ c.len-number.ensures.value) time
    (ap (λ (b : BaseView). b.chain) c.new.ensures ∙ chain)
    (subst (λ (x : LoggedView). IsOfLog viewers entries x.part) (sym c.self.view_is) is)

pub returns-then-not-is_viewer_count-clause-some : goal.returns-then-not-is_viewer_count-clause-some
returns-then-not-is_viewer_count-clause-some c = λ viewers entries is one most some.
    let p = c.args.self.now.part in
    let none : None ≡ base_of p c.args.chain c.args.snapshot = search rules in
    ap is_some none ∙ host-has-base viewers entries p c.args.chain c.args.snapshot is one most some

pub returns-then-not-is_input_time-clause-some : goal.returns-then-not-is_input_time-clause-some
returns-then-not-is_input_time-clause-some c = λ viewers entries is one most some.
    let p = c.args.self.now.part in
    let none : None ≡ base_of p c.args.chain c.args.snapshot = search rules in
    ap is_some none ∙ host-has-base viewers entries p c.args.chain c.args.snapshot is one most some
