use Rattle.std.proofs.Common.{◌≡◌, ◌≤◌, get_or, refl, arith, Some}
use Rattle.std.specs.Prelude.{slice_get}
use Rattle.std.proofs.lemmas.Option.{slice_get-get_or}
use Rattle.pick_core.specs.declared.ranges.RowRange.{RowRange}
use Rattle.pick_core.specs.Ranges.{IsWider}
use Rattle.pick_core.proofs.Growing.{get-put, grown-put}
use Rattle.pick_core.proofs.ranges.take_next.Goals as goal

pub returns-clause-taken : goal.returns-clause-taken
returns-clause-taken c e =
    let rs = c.args.ranges.now in
    let old : RowRange = get_or rs c.args.place (record { first = 0; last = 0; next = 0 }) in
    let new : RowRange = record { first = old.first; last = c.max.result; next = old.next } in
    let here = get-put rs c.args.place new (omega arith) in
    let behind : c.args.row ≤ c.max.result = omega (arith, c.max.ensures) in
    let front : old.first ≤ c.args.row = c.is_next.ensures c.if-not-is_next.false in
    (new, here, (front, behind))

pub returns-clause-kept : goal.returns-clause-kept
returns-clause-kept c =
    let rs = c.args.ranges.now in
    let old : RowRange = get_or rs c.args.place (record { first = 0; last = 0; next = 0 }) in
    let new : RowRange = record { first = old.first; last = c.max.result; next = old.next } in
    let there : slice_get rs c.args.place ≡ Some old = slice_get-get_or rs c.args.place (record { first = 0; last = 0; next = 0 }) (omega arith) in
    let wide : IsWider old new = record { next = refl; first = omega arith; last = omega (arith, c.max.ensures) } in
    grown-put rs c.args.place old new there wide
