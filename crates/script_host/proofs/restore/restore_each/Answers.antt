use Rattle.std.proofs.Common.{rules, arith, sym, ap, ◌≡◌, ◌∙◌, Err, slice_set}
use Rattle.std.proofs.lemmas.List.{set-get_or}
use Rattle.script_host.proofs.restore.restore_each.Goals as goal
use Rattle.script_host.proofs.RestoreLemmas.{fits_next, restored_next}

pub restore-requires : goal.restore-requires
restore-requires g c =
    let h = fits_next c.args.slots.now c.loop-k.slots c.args.states.now c.loop-k.k c.index-slots-k.result c.index-states-k.result
    c.loop-k.invariant (omega arith) (omega arith) c.index-slots-k.is c.index-states-k.is (c.requires.fit c.loop-k.k (omega arith)) in
    rw (sym c.index-slots-k.is, c.as_slice.ensures) h

pub loop-k-preserved : goal.loop-k-preserved
loop-k-preserved g c =
    let h = restored_next c.args.slots.now c.loop-k.slots c.args.states.now c.loop-k.k c.index-slots-k.result c.index-states-k.result
    c.loop-k.invariant (omega arith) (omega arith) c.index-slots-k.is c.index-states-k.is in
    search (rules, h)

pub returns-in_err-restore-clause-err : goal.returns-in_err-restore-clause-err
returns-in_err-restore-clause-err g c =
    let failed : c.from_residual.result ≡ Err c.in_err-restore.field-0.0 = search rules in
    let same = ap (λ slot. slice_set c.loop-k.slots c.loop-k.k slot) c.in_err-restore.ensures.err
    ∙ set-get_or c.loop-k.slots c.loop-k.k c.index-slots-k.result in
    rw failed (c.loop-k.k, same ∙ c.loop-k.invariant)
