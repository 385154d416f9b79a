use Rattle.std.proofs.Common.{◌++◌, ap, ◌∙◌}
use Rattle.std.specs.List.{flat_map}
use Rattle.classic_part.specs.Rounds.{left_one}
use Rattle.classic_part.proofs.Lighter.{further_left, lighter_after}
use Rattle.classic_part.proofs.part.part_of.Goals as goal

pub loop-alloc-preserved : goal.loop-alloc-preserved
loop-alloc-preserved c =
    further_left c.args.refused.now c.args.document.now c.loop-alloc.made c.loop-alloc.after c.in_ok-further.further c.replace.new.dest c.replace-before.new.dest c.args.left.now c.loop-alloc.left _
    c.loop-alloc.invariant
    (c.replace.ensures.after ∙ c.replace-before.ensures.value)
    (c.replace-before.ensures.after ∙ c.in_ok-further.ensures)
    (c.in_ok-collect-2.ensures ∙ ap (λ ns. c.loop-alloc.left ++ flat_map left_one ns) c.as_slice-in-loop-alloc-2.ensures)

pub loop-alloc-smaller : goal.loop-alloc-smaller
loop-alloc-smaller c =
    lighter_after c.args.refused.now c.loop-alloc.made c.loop-alloc.after c.replace.new.dest c.as_slice-in-loop-alloc.result.now c.any_goes.result
    c.loop-alloc.invariant.2 (c.replace.ensures.after ∙ c.replace-before.ensures.value) c.as_slice-in-loop-alloc.ensures c.any_goes.ensures c.loop-alloc-test.true
