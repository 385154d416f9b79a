use Rattle.std.proofs.Common.{◌≡◌, ◌==◌, ◌∙◌, length, take, drop, not, ap, sym, arith}
use Rattle.std.proofs.lemmas.Bool.{eqb-true}
use Rattle.x3d_numerals.specs.Reading.{run}
use Rattle.x3d_numerals.proofs.FewDigits.{digits_alone, digits_and_point, some_of}
use Rattle.x3d_numerals.proofs.short.is_plain.Goals as goal

pub returns-then-is_empty : goal.returns-then-is_empty
returns-then-is_empty c =
    let text = c.args.text.now in
    let whole = c.split_at.result.0.now in
    let rest = c.split_at.result.1.now in
    let front : whole ≡ take (run 10 text) text = c.split_at.ensures.front ∙ ap (λ n. take n text) c.decimals.ensures.count in
    let back : rest ≡ drop (run 10 text) text = c.split_at.ensures.back ∙ ap (λ n. drop n text) c.decimals.ensures.count in
    let none : c.is_empty.result ≡ (length rest == 0) = c.is_empty.ensures in
    let some : c.is_empty-then-is_empty.result ≡ (length whole == 0) = c.is_empty-then-is_empty.ensures in
    λ yes. digits_alone text whole rest front back (eqb-true (length rest) 0 (sym none ∙ c.if-is_empty.true)) (some_of (length whole) (ap not (sym some) ∙ yes))

pub returns-then-whole-fraction-gt0 : goal.returns-then-whole-fraction-gt0
returns-then-whole-fraction-gt0 c =
    let text = c.args.text.now in
    let whole = c.split_at.result.0.now in
    let rest = c.split_at.result.1.now in
    let fraction = c.in-Some.fraction.now in
    let front : whole ≡ take (run 10 text) text = c.split_at.ensures.front ∙ ap (λ n. take n text) c.decimals.ensures.count in
    let back : rest ≡ drop (run 10 text) text = c.split_at.ensures.back ∙ ap (λ n. drop n text) c.decimals.ensures.count in
    let all : c.decimals-then-whole-fraction-gt0.result ≡ run 10 fraction = c.decimals-then-whole-fraction-gt0.ensures.count in
    λ yes. digits_and_point text whole rest fraction front back c.in-Some.ensures (sym all ∙ eqb-true c.decimals-then-whole-fraction-gt0.result (length fraction) yes) (omega (arith, c.if-whole-fraction-gt0.true))
