use Rattle.std.proofs.Common.{◌≡◌, take, get_or, min, true, ap, sym, ◌∙◌, arith}
use Rattle.std.specs.Str.Parse.{digits_value_after}
use Rattle.classic_bytes.specs.Bytes.{is_digit}
use Rattle.x3d_numerals.proofs.OneByOne.{digit_in, run_more, run_ends, value_more}
use Rattle.x3d_numerals.proofs.digits.read_digits.Goals as goal

pub overflow_sub-text : goal.overflow_sub-text
overflow_sub-text c = (digit_in _ (sym c.is_digit.ensures ∙ c.if-is_digit.true)).0

pub with_digit-number-requires : goal.with_digit-number-requires
with_digit-number-requires c =
    let r = digit_in _ (sym c.is_digit.ensures ∙ c.if-is_digit.true) in
    omega (arith, r.0, r.1, c.from.ensures)

pub loop-len-preserved : goal.loop-len-preserved
loop-len-preserved c =
    let text = c.args.text.now in
    let digit : is_digit (get_or text c.loop-len.len 0) ≡ true = sym c.is_digit.ensures ∙ c.if-is_digit.true in
    let i = c.loop-len.invariant in
    let more = value_more c.args.start text c.loop-len.len c.loop-len-test.true digit in
    (omega (arith, c.loop-len-test.true), run_more text c.loop-len.len c.loop-len-test.true digit i.1, omega (arith, i.2, more, c.with_digit-number.ensures, c.from.ensures))

pub returns-else-is_digit-clause-len : goal.returns-else-is_digit-clause-len
returns-else-is_digit-clause-len c =
    run_ends c.args.text.now c.loop-len.len c.loop-len-test.true (sym c.is_digit.ensures ∙ c.if-is_digit.false) c.loop-len.invariant.1

pub returns-else-is_digit-clause-number : goal.returns-else-is_digit-clause-number
returns-else-is_digit-clause-number c =
    let all = run_ends c.args.text.now c.loop-len.len c.loop-len-test.true (sym c.is_digit.ensures ∙ c.if-is_digit.false) c.loop-len.invariant.1 in
    c.loop-len.invariant.2 ∙ ap (λ n. min (digits_value_after 10 c.args.start (take n c.args.text.now)) 18446744073709551615) all
