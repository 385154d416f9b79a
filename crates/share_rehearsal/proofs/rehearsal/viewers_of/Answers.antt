use Rattle.std.proofs.Common.{◌≡◌, ◌≤◌, ◌++◌, List, ◌∷◌, [], length, ◌+◌, subst}
use Rattle.std.specs.Vec.Iter.{into_iter_items}
use Rattle.x3d_values.specs.Ranges.{max_viewers}
use Rattle.cascade_core.specs.Held.{StageView}
use Rattle.share_core.specs.Viewer.{ViewerView}
use Rattle.share_rehearsal.specs.Calls.{viewers_from}
use Rattle.share_rehearsal.specs.Loaded.{AreFresh}
use Rattle.share_rehearsal.proofs.Seating.{few, seat_of, seated}
use Rattle.share_rehearsal.proofs.rehearsal.viewers_of.Goals as goal

pub loop-stage-preserved : goal.loop-stage-preserved
loop-stage-preserved g c =
    let stage : StageView = c.in-Some.stage in
    let before : List ViewerView = c.loop-stage.viewers.items in
    let rest : List StageView = into_iter_items c.next.new.self in
    let step : into_iter_items c.loop-stage.stage-iterator ≡ stage ∷ rest = c.in-Some.ensures.steps.0 in
    let small : length before + length (stage ∷ rest) ≤ max_viewers = subst (λ (xs : List StageView). length before + length xs ≤ max_viewers) step c.loop-stage.invariant.2 in
    let fresh : AreFresh (stage ∷ rest) = subst AreFresh step c.loop-stage.invariant.1 in
    let all : before ++ viewers_from c.args.mark (length before) (stage ∷ rest) ≡ viewers_from c.args.mark 0 c.args.stages.items =
    subst (λ (xs : List StageView). before ++ viewers_from c.args.mark (length before) xs ≡ viewers_from c.args.mark 0 c.args.stages.items) step c.loop-stage.invariant.0 in
    let more : List ViewerView = c.seat.new.viewers.items in
    let made : more ≡ before ++ seat_of c.args.mark (length before) stage ∷ [] = c.in-Ok.ensures in (
      seated c.args.mark before stage rest c.args.stages.items more made all,
      fresh.1,
      few before (seat_of c.args.mark (length before) stage) stage rest more made small,
    )
