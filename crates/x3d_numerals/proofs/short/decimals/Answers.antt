use Rattle.std.proofs.Common.{◌≡◌, get_or, true, sym, ◌∙◌, arith}
use Rattle.classic_bytes.specs.Bytes.{is_digit}
use Rattle.x3d_numerals.proofs.OneByOne.{run_more, run_ends}
use Rattle.x3d_numerals.proofs.short.decimals.Goals as goal

pub loop-len-preserved : goal.loop-len-preserved
loop-len-preserved c =
    let digit : is_digit (get_or c.args.text.now c.loop-len.len 0) ≡ true = sym c.is_digit.ensures ∙ c.if-is_digit.true in
    let i = c.loop-len.invariant in
    (omega (arith, c.loop-len-test.true), run_more c.args.text.now c.loop-len.len c.loop-len-test.true digit i.1)

pub returns-else-is_digit-clause-count : goal.returns-else-is_digit-clause-count
returns-else-is_digit-clause-count c =
    run_ends c.args.text.now c.loop-len.len c.loop-len-test.true (sym c.is_digit.ensures ∙ c.if-is_digit.false) c.loop-len.invariant.1
