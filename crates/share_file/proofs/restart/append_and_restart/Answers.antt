use Rattle.std.proofs.Common.{Result, Ok, Err, IfOk, IfErr, OnOk, IsTrue, subst}
use Rattle.share_file.proofs.Restarting.{found_whole, found_all, opens}
use Rattle.share_file.proofs.restart.append_and_restart.Goals as goal

if_ok : {T E : Type 0} (r : Result T E) (A B C : T → Type 0) → ((x : T) → A x → B x → C x) → IfOk r A → IfOk r B → IfOk r C
if_ok (Ok x) A B C f a b = f x a b
if_ok (Err e) A B C f a b = b

if_err : {T E : Type 0} (r : Result T E) (A B C : E → Type 0) → ((e : E) → A e → B e → C e) → IfErr r A → IfErr r B → IfErr r C
if_err (Ok x) A B C f a b = b
if_err (Err e) A B C f a b = f e a b

both_ok : {T E : Type 0} (r : Result T E) (A B C : Type 0) → (A → B → C) → OnOk r A → OnOk r B → OnOk r C
both_ok (Ok x) A B C f a b = f a b
both_ok (Err e) A B C f a b = b

pub returns-clause-whole : goal.returns-clause-whole
returns-clause-whole g c =
    let f = c.args.log in
    let n = c.store-answer.new.self in
    let d = c.crash.new.self in
    let left = subst (λ (k : g.row.D.Denot). g.D.Disk.may_leave k (g.D.Disk.seen d)) c.into_disk-disk.ensures c.crash.ensures.left in
    let cleaner = subst (λ (k : g.row.D.Denot). IsTrue (g.D.Disk.is_clean d) → IsTrue (g.D.Disk.is_clean k)) c.into_disk-disk.ensures c.crash.ensures.clean in
    if_ok c.open-opened.result _ _ _ (λ o found before clean.
    found_whole g.D.Disk.seen g.D.Disk.may_leave g.D.Disk.is_usable g.D.Disk.is_clean f.log n.log d f.start f.chain f.count f.is_open f.kept c.requires.open c.args.entries.now c.store-answer.ensures.clean left cleaner
    c.store-answer.ensures.any_crash c.args.expected.now (record { head = o.head; base = o.base; entries = o.entries.items; cut = o.cut }) (before clean) (found clean))
    c.open-opened.ensures.found c.open-opened.ensures.clean

pub returns-clause-acknowledged : goal.returns-clause-acknowledged
returns-clause-acknowledged g c =
    let f = c.args.log in
    let n = c.store-answer.new.self in
    let d = c.crash.new.self in
    let left = subst (λ (k : g.row.D.Denot). g.D.Disk.may_leave k (g.D.Disk.seen d)) c.into_disk-disk.ensures c.crash.ensures.left in
    let cleaner = subst (λ (k : g.row.D.Denot). IsTrue (g.D.Disk.is_clean d) → IsTrue (g.D.Disk.is_clean k)) c.into_disk-disk.ensures c.crash.ensures.clean in
    both_ok c.store-answer.result _ _ _ (λ taking more.
    if_ok c.open-opened.result _ _ _ (λ o found before clean.
    found_all g.D.Disk.seen g.D.Disk.may_leave g.D.Disk.is_usable g.D.Disk.is_clean f.log n.log d f.start f.chain f.count f.is_open f.kept c.requires.open c.args.entries.now c.store-answer.ensures.clean left cleaner
    (n.kept.ready taking) more c.args.expected.now (record { head = o.head; base = o.base; entries = o.entries.items; cut = o.cut }) (before clean) (found clean))
    c.open-opened.ensures.found c.open-opened.ensures.clean)
    c.store-answer.ensures.open c.store-answer.ensures.added

pub returns-clause-opened : goal.returns-clause-opened
returns-clause-opened g c =
    let f = c.args.log in
    let n = c.store-answer.new.self in
    let d = c.crash.new.self in
    let left = subst (λ (k : g.row.D.Denot). g.D.Disk.may_leave k (g.D.Disk.seen d)) c.into_disk-disk.ensures c.crash.ensures.left in
    let cleaner = subst (λ (k : g.row.D.Denot). IsTrue (g.D.Disk.is_clean d) → IsTrue (g.D.Disk.is_clean k)) c.into_disk-disk.ensures c.crash.ensures.clean in
    both_ok c.store-answer.result _ _ _ (λ taking more.
    if_err c.open-opened.result _ _ _ (λ e refused before clean v is.
    opens g.D.Disk.seen g.D.Disk.may_leave g.D.Disk.is_usable g.D.Disk.is_clean f.log n.log d f.start f.chain f.count f.is_open f.kept c.requires.open c.args.entries.now c.store-answer.ensures.clean left cleaner
    (n.kept.ready taking) more c.args.expected.now e.0 (before clean) (refused clean) v is)
    c.open-opened.ensures.refused c.open-opened.ensures.clean_err)
    c.store-answer.ensures.open c.store-answer.ensures.added
