use Rattle.std.proofs.Common.{◌∙◌, ◌-◌, ◌^◌, ap}
use Rattle.std.specs.Prelude.{slice_get}
use Rattle.pick_core.proofs.Growing.{longer-pushed}
use Rattle.pick_core.proofs.ranges.make_room.Goals as goal

pub loop-firsts-preserved : goal.loop-firsts-preserved
loop-firsts-preserved c n x e =
    ap (λ xs. slice_get xs n) c.in_ok-push.ensures.items ∙ longer-pushed c.args.firsts.now.items c.loop-firsts.firsts.items (2 ^ 64 - 1) c.loop-firsts.invariant n x e
