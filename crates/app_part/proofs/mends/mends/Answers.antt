use Rattle.std.proofs.Common.{◌∙◌, sym}
use Rattle.app_part.proofs.Mended.{some_left, all_gone, the_first}
use Rattle.app_part.proofs.mends.mends.Goals as goal

pub returns-then-is_any_left : goal.returns-then-is_any_left
returns-then-is_any_left c =
    some_left c.args.refused.now c.args.fault.now c.args.blames c.as_slice.result.now c.in-Some.first c.is_any_left.result (sym c.blame_of.ensures ∙ c.in-Some.is)
    c.as_slice.ensures c.is_any_left.ensures c.if-is_any_left.true

pub returns-then-is_gone : goal.returns-then-is_gone
returns-then-is_gone c =
    all_gone c.args.refused.now c.args.fault.now c.args.blames c.as_slice.result.now c.in-Some.first c.is_any_left.result c.is_gone.result (sym c.blame_of.ensures ∙ c.in-Some.is)
    c.as_slice.ensures c.is_any_left.ensures c.if-is_any_left.false c.is_gone.ensures c.if-is_gone.true

pub returns : goal.returns
returns c =
    the_first c.args.refused.now c.args.fault.now c.args.blames c.as_slice.result.now c.in_ok-only.field-0 c.in-Some.first c.is_any_left.result c.is_gone.result
    (sym c.blame_of.ensures ∙ c.in-Some.is) c.as_slice.ensures c.is_any_left.ensures c.if-is_any_left.false c.is_gone.ensures c.if-is_gone.false c.in_ok-only.ensures
