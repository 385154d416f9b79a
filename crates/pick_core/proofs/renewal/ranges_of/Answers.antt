use Rattle.std.proofs.Common.{◌≡◌, ◌∙◌, inl, inr, sym, ap, subst, arith, Some, length, refl, rules}
use Rattle.std.specs.Prelude.{slice_get}
use Rattle.std.proofs.lemmas.Bool.{cases_lt}
use Rattle.std.proofs.lemmas.Option.{same_Some, slice_get_read, slice_get_within}
use Rattle.pick_core.specs.Ranges.{HasRow}
use Rattle.pick_core.specs.Sites.{touches}
use Rattle.pick_core.specs.declared.row.BoxRow.{BoxRow}
use Rattle.pick_core.proofs.renewal.ranges_of.Goals as goal

pub loop-at-preserved : goal.loop-at-preserved
loop-at-preserved c n k r lt e t =
    let rows = c.args.rows.now in
    let i = c.loop-at.at in
    let item = c.index-rows-at.result in
    elim (cases_lt k i) [
      | inl below ↦ c.in_ok-add_at.ensures.kept n k (c.loop-at.invariant n k r below e t)
      | inr over ↦
          let same : k ≡ i = omega arith in
          let here : slice_get rows i ≡ Some r = ap (slice_get rows) (sym same) ∙ e in
          let read : slice_get rows i ≡ Some item = slice_get_read rows (length rows) i item refl c.loop-at-test.true (search rules) in
          let is : item ≡ r = same_Some item r (sym read ∙ here) in
          subst (λ j. HasRow c.add_at.new.ranges n j) (sym same) (c.in_ok-add_at.ensures.added n (ap (λ (q : BoxRow). touches n q.trail) is ∙ t))
    ]

pub returns : goal.returns
returns c n k r e t = c.loop-at.invariant n k r (omega (arith, slice_get_within c.args.rows.now k r e)) e t
