use Rattle.std.proofs.Common.{ℕ, ◌++◌, Result, Ok, Err, OnOk, OnErr, sym, ◌∙◌, ap, subst}
use Rattle.share_store.specs.OneLog.{Last}
use Rattle.share_entries.specs.declared.start.Start.{Start}
use Rattle.share_file.specs.Keeping.{LeavesEntries, known_in}
use Rattle.share_file.proofs.Keeping.{known_more, last_more, begins, known_stays, to_old}
use Rattle.share_file.proofs.append.FileLogLog.append.Goals as goal

both_ok : {T E : Type 0} (r : Result T E) (A B C : Type 0) → (A → B → C) → OnOk r A → OnOk r B → OnOk r C
both_ok (Ok x) A B C f a b = f a b
both_ok (Err e) A B C f a b = b

on_err : {T E : Type 0} (r : Result T E) (A B : Type 0) → (A → B) → OnErr r A → OnErr r B
on_err (Ok x) A B f a = a
on_err (Err e) A B f a = f a

pub returns-clause-stored : goal.returns-clause-stored
returns-clause-stored g c =
    let f = c.args.self.now in
    let n = c.store.new.self in
    let file = g.D.Disk.seen f.log.disk in
    let new = g.D.Disk.seen n.log.disk in
    both_ok c.store.result _ _ _ (λ total more clean.
    let old = to_old (g.D.Disk.is_clean n.log.disk) (g.D.Disk.is_clean f.log.disk) c.store.ensures.clean clean in
    ap (λ (r : Start). known_in r n.count new) c.store.ensures.start
    ∙ ap (λ (k : ℕ). known_in f.start k new) total
    ∙ known_more f.start f.chain f.count c.args.entries.now file (f.kept.reads c.requires.open old) (f.kept.linked c.requires.open old) (f.kept.all c.requires.open old) new (more clean))
    c.store.ensures.count c.store.ensures.added

-- each content that a crash may leave has the new entries
pub returns-clause-last : goal.returns-clause-last
returns-clause-last g c =
    let f = c.args.self.now in
    let n = c.store.new.self in
    let file = g.D.Disk.seen f.log.disk in
    let new = g.D.Disk.seen n.log.disk in
    let left = g.D.Disk.may_leave n.log.disk in
    both_ok c.store.result _ _ _ (λ taking more clean.
    let old = to_old (g.D.Disk.is_clean n.log.disk) (g.D.Disk.is_clean f.log.disk) c.store.ensures.clean clean in
    subst (λ (r : Start). Last (LeavesEntries r left) (known_in f.start f.count file ++ c.args.entries.now)) (sym c.store.ensures.start)
    (last_more f.start f.chain f.count c.args.entries.now file (f.kept.reads c.requires.open old) (f.kept.linked c.requires.open old) (f.kept.all c.requires.open old) left new (more clean)
    ((n.kept.ready taking).at_rest clean).durable))
    c.store.ensures.open c.store.ensures.added

pub returns-clause-crash : goal.returns-clause-crash
returns-clause-crash g c = λ before clean.
    let f = c.args.self.now in
    let n = c.store.new.self in
    let file = g.D.Disk.seen f.log.disk in
    let left = g.D.Disk.may_leave n.log.disk in
    let old = to_old (g.D.Disk.is_clean n.log.disk) (g.D.Disk.is_clean f.log.disk) c.store.ensures.clean clean in
    subst (λ (r : Start). Last (LeavesEntries r left) (known_in f.start f.count file)) (sym c.store.ensures.start)
    (begins f.start f.chain f.count c.args.entries.now file (f.kept.reads c.requires.open old) (f.kept.linked c.requires.open old) (f.kept.all c.requires.open old) left (c.store.ensures.any_crash clean))

-- also in doubt, the file has what was known
pub returns-clause-refused : goal.returns-clause-refused
returns-clause-refused g c =
    let f = c.args.self.now in
    let n = c.store.new.self in
    let file = g.D.Disk.seen f.log.disk in
    let new = g.D.Disk.seen n.log.disk in
    on_err c.store.result _ _ (λ same clean.
    let old = to_old (g.D.Disk.is_clean n.log.disk) (g.D.Disk.is_clean f.log.disk) c.store.ensures.clean clean in
    ap (λ (r : Start). known_in r n.count new) c.store.ensures.start
    ∙ ap (λ (k : ℕ). known_in f.start k new) same
    ∙ known_stays f.start f.chain f.count c.args.entries.now file (f.kept.reads c.requires.open old) (f.kept.linked c.requires.open old) (f.kept.all c.requires.open old) new
    (c.store.ensures.any_crash clean new (g.met.D.Disk.seen_may_stay n.log.disk)))
    c.store.ensures.count_err
