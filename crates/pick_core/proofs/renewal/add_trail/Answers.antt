use Rattle.std.proofs.Common.{◌∙◌, inl, inr, ap, subst, arith, take_all}
use Rattle.pick_core.specs.Ranges.{HasRow}
use Rattle.pick_core.specs.Sites.{touches}
use Rattle.pick_core.proofs.Renewed.{touches-more}
use Rattle.pick_core.proofs.renewal.add_trail.Goals as goal

pub loop-place-init : goal.loop-place-init
loop-place-init c = record { added = λ n t. cc; kept = λ n k h. h }

pub loop-place-preserved : goal.loop-place-preserved
loop-place-preserved c = record {
  added = λ n t. elim (touches-more n c.args.trail.now c.loop-place.place-index (record { position = 0; node = 0 }) c.loop-place-test.true t) [
    | inl before ↦ c.in_ok-add_row.ensures.kept n c.args.at (c.loop-place.invariant.added n before)
    | inr here ↦ subst (λ m. HasRow c.add_row.new.ranges m c.args.at) here c.in_ok-add_row.ensures.added
  ];
  kept = λ n k h. c.in_ok-add_row.ensures.kept n k (c.loop-place.invariant.kept n k h);
}

pub returns-clause-added : goal.returns-clause-added
returns-clause-added c n t =
    let all = take_all c.loop-place.place-index c.args.trail.now (omega arith) in
    c.loop-place.invariant.added n (ap (touches n) all ∙ t)
