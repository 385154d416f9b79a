use Rattle.std.proofs.Common.{rules, FitsSigned, w64, sym, subst, ◌∙◌}
use Rattle.std.specs.Prelude.{IfErr}
use Rattle.std.proofs.lemmas.Int.{to_z-of_z}
use Rattle.share_entries.specs.declared.entry.Source.{Source}
use Rattle.share_logged.specs.Entries.{IsMadeNot}
use Rattle.share_logged.proofs.beginning.make.Goals as goal

pub returns-in-Clock-clause-refused : goal.returns-in-Clock-clause-refused
returns-in-Clock-clause-refused c =
    let fits : FitsSigned w64 c.time.result = search rules in
    let not = rw (to_z-of_z w64 c.time.result fits, c.time.ensures.value) at c.make_clock.ensures.refused in
    subst (λ (s : Source). IfErr c.make_clock.result (λ fault. IsMadeNot c.args.host.now.part c.args.entry.now.time s c.args.number fault)) (sym c.in-Clock.is ∙ c.source.ensures) not

pub returns-in-Offer-clause-refused : goal.returns-in-Offer-clause-refused
returns-in-Offer-clause-refused c =
    let fits : FitsSigned w64 c.time-in-Offer.result = search rules in
    let not = rw (to_z-of_z w64 c.time-in-Offer.result fits, c.time-in-Offer.ensures.value) at c.make_offer.ensures.refused in
    subst (λ (s : Source). IfErr c.make_offer.result (λ fault. IsMadeNot c.args.host.now.part c.args.entry.now.time s c.args.number fault)) (sym c.in-Offer.is ∙ c.source.ensures) not
