use Rattle.std.proofs.Common.{Result, Ok, Err, IfErr, IsTrue, subst}
use Rattle.app_logs.proofs.Recalls.{not_resumed}
use Rattle.app_logs.proofs.beginning.go_on.Goals as goal

both : {T E : Type 0} (r : Result T E) (A B C : E → Type 0) → ((e : E) → A e → B e → C e) → IfErr r A → IfErr r B → IfErr r C
both (Ok x) A B C f a b = b
both (Err e) A B C f a b = f e a b

pub returns-in-Ok-clause-refused : goal.returns-in-Ok-clause-refused
returns-in-Ok-clause-refused g c =
    both c.with_host.result _ _ _ (λ f why disk clean.
    let opened : IsTrue (g.D.Disk.is_clean c.in-Ok.opened.log.log.disk) = subst (λ (d : g.row.D.Denot). IsTrue (g.D.Disk.is_clean d)) disk clean in
    not_resumed c.args.expected.now (g.D.Disk.seen c.args.disk) (record { head = c.in-Ok.opened.head; base = c.in-Ok.opened.base; entries = c.in-Ok.opened.entries.items; cut = c.in-Ok.opened.cut })
    f.0 (c.in-Ok.ensures.found opened) why)
    c.with_host.ensures.refused c.with_host.ensures.disk
