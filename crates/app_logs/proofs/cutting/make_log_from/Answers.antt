use Rattle.std.proofs.Common.{List, refl, sym, subst}
use Rattle.share_entries.specs.Entry.{EntryView}
use Rattle.share_store.specs.OneLog.{Begins}
use Rattle.app_logs.proofs.cutting.make_log_from.Goals as goal

pub returns-clause-lasts : goal.returns-clause-lasts
returns-clause-lasts g c = λ clean.
    let none = c.in-Ok.ensures.known (c.append_all.ensures.clean clean) in
    c.append_all.ensures.lasts (λ left leaves. subst (λ (known : List EntryView). Begins known left) (sym none) (left, refl)) clean
