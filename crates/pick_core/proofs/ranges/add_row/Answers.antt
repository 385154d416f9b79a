use Rattle.std.proofs.Common.{◌≡◌, ℕ, ◌∙◌, ◌++◌, ◌≤◌, List, Some, drop, take, take_all, length, refl, ap, sym, subst, arith, rules}
use Rattle.std.specs.Prelude.{slice_get}
use Rattle.std.proofs.lemmas.List.{take-append-le}
use Rattle.std.proofs.lemmas.Option.{slice_get_read}
use Rattle.pick_core.specs.declared.ranges.RowRange.{RowRange}
use Rattle.pick_core.specs.Ranges.{IsGrown}
use Rattle.pick_core.proofs.Growing.{Has, has-grown, has-at, on_ok-by}
use Rattle.pick_core.proofs.ranges.add_row.Goals as goal

-- a whole list that was lent
written : (n : ℕ) (new old : List RowRange) → n ≡ length old → length new ≡ length old → take n (new ++ drop (length new) old) ≡ new
written n new old e f =
    let most : n ≤ length new = omega arith in
    let least : length new ≤ n = omega arith in
    take-append-le n new (drop (length new) old) most ∙ take_all n new least

pub returns-then-take_next-clause-added : goal.returns-then-take_next-clause-added
returns-then-take_next-clause-added c =
    let vec = c.args.ranges.now.ranges in
    let firsts = c.make_room.new.firsts.items in
    let new = c.take_next.new.ranges in
    let long : length new ≡ length vec.items = c.take_next.ensures.long ∙ ap length c.as_mut_slice.ensures.value in
    let first : slice_get firsts c.args.node ≡ Some c.index-place.result.now = slice_get_read firsts (length firsts) c.args.node c.index-place.result.now refl c.in_ok-make_room.ensures.room (search rules) in
    subst (λ rs. Has firsts rs c.args.node c.args.row) (sym (written vec.len new vec.items vec.ok.0 long)) (has-at firsts new c.args.node c.index-place.result.now c.args.row first (c.take_next.ensures.taken c.if-take_next.true))

pub returns-then-take_next-clause-kept : goal.returns-then-take_next-clause-kept
returns-then-take_next-clause-kept c n k has =
    let vec = c.args.ranges.now.ranges in
    let firsts = c.make_room.new.firsts.items in
    let new = c.take_next.new.ranges in
    let long : length new ≡ length vec.items = c.take_next.ensures.long ∙ ap length c.as_mut_slice.ensures.value in
    let grown : IsGrown vec.items new = subst (λ rs. IsGrown rs new) c.as_mut_slice.ensures.value c.take_next.ensures.kept in
    subst (λ rs. Has firsts rs n k) (sym (written vec.len new vec.items vec.ok.0 long)) (has-grown c.args.ranges.now.firsts.items firsts vec.items new c.in_ok-make_room.ensures.kept grown (omega arith) n k has)

pub push_range-requires-clause-place : goal.push_range-requires-clause-place
push_range-requires-clause-place c =
    let firsts = c.make_room.new.firsts.items in
    slice_get_read firsts (length firsts) c.args.node c.index-place.result.now refl c.in_ok-make_room.ensures.room (search rules)

pub returns-clause-kept : goal.returns-clause-kept
returns-clause-kept c =
    let vec = c.args.ranges.now.ranges in
    let firsts = c.make_room.new.firsts.items in
    let new = c.take_next.new.ranges in
    let long : length new ≡ length vec.items = c.take_next.ensures.long ∙ ap length c.as_mut_slice.ensures.value in
    let grown : IsGrown vec.items new = subst (λ rs. IsGrown rs new) c.as_mut_slice.ensures.value c.take_next.ensures.kept in
    on_ok-by c.push_range.result c.push_range.ensures.kept (λ f n k has. f n k (subst (λ rs. Has firsts rs n k) (sym (written vec.len new vec.items vec.ok.0 long)) (has-grown c.args.ranges.now.firsts.items firsts vec.items new c.in_ok-make_room.ensures.kept grown (omega arith) n k has)))
